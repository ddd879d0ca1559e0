-- Which processes can be held without memory, after an event.
use Rattle.std.proofs.Common.{◌≡◌, ℕ, zero, suc, ◌+◌, ◌-◌, ◌<◌, ◌≤◌, ◌==◌, ◌||◌, Bool, true, false, cond, not, nat_lt, List, [], ◌∷◌, length, filter, refl, sym, ap, subst, ◌∙◌, true≢false, arith, Ok, Err, ◌&&◌, Option, Some, None, Result, IfOk, OnOk, OnErr, is_ok}
use Rattle.std.proofs.lemmas.Bool.Decides.{nat_tests}
use Rattle.std.specs.Prelude.{OnSome}
use Rattle.beam_machine.specs.declared.debug.DebugEvent.{DebugEvent}
use Rattle.beam_machine.specs.declared.debug.DebugEvent.TheVariants.{SetBreak, ClearBreak, Resume, StepOne, Inspect, Node as NodeEvent}
use Rattle.beam_machine.specs.declared.debug.DebugReply.{DebugReply}
use Rattle.beam_machine.specs.declared.debug.DebugReply.TheVariants.{Held, Viewed, Node}
use Rattle.beam_machine.specs.declared.event.Event.{Event}
use Rattle.beam_machine.specs.declared.event.Reply.TheVariants.{Done, Changed, Ran}
use Rattle.beam_machine.specs.declared.event.Refused.{Refused}
use Rattle.beam_machine.specs.declared.event.Refused.TheVariants.{NoMemory, NotReady, Stopped}
use Rattle.beam_machine.specs.declared.event.Then.{Then}
use Rattle.beam_machine.specs.declared.event.Then.TheVariants.{GoesOn, Waits, Ended}
use Rattle.beam_machine.specs.declared.process.Goes.TheVariants.{At, Enter, Nowhere}
use Rattle.beam_machine.specs.Prelude.{Code, Debugged, DebugAnswer, DebugNext, Halting, halting, is_among, is_live_process, is_spot, with_pid, without_pid, with_spot, without_spot, refuses, replies, after_rows, answered, of_node, halted, halts, debug_steps, held_at, stepped, steps_one, debug_step_one, debug_resume, debug_set, debug_clear, debug_inspect, place_named, debug_next, debug_cut_event, DebugAnswers, Answer, Rows, next, Process, is_waiting, then_of, IsLoud, is_quiet_at, is_calm, outcome, effective_rows, State, empty, process_of, live_process, View, view_of}
use Rattle.beam_machine.specs.declared.event.Event.TheVariants as event
use Rattle.beam_machine.specs.declared.process.Goes.{Goes}
use Rattle.beam_model.specs.Prelude.{Listing, Place}
use Rattle.beam_machine.specs.Next.{steps}
use Rattle.beam_laws.proofs.Ending.{alive_is, at_index}
use Rattle.beam_laws.proofs.Lookups.{left_false}
use Rattle.beam_laws.proofs.Numbered.{positive}
use Rattle.beam_debug.specs.declared.outcome.Outcome.{Outcome}
use Rattle.beam_debug.specs.declared.debug_state.DebugState.{DebugState}
use Rattle.beam_debug.specs.Prelude.{answer_of, reply_of, capacity_of, steps_in, debugged, is_at_row, has_begun, AreRising, BeginBelow, HasCapacity, CapacityFor, Settled, ShortAnswers}
use Rattle.beam_debug.proofs.Beginning.{halting_below, next_below, steps_below}

-- ---- rising numbers

lower : (low lowest high : ℕ) (ns : List ℕ) → lowest ≤ low → AreRising low high ns → AreRising lowest high ns
lower low lowest high [] less h = tt
lower low lowest high (n ∷ rest) less h =
    let from : lowest ≤ n = omega (arith, less, h.0) in
    (from, h.1)

pub higher : (low high highest : ℕ) (ns : List ℕ) → high ≤ highest → AreRising low high ns → AreRising low highest ns
higher low high highest [] more h = tt
higher low high highest (n ∷ rest) more h =
    let below : n < highest = omega (arith, more, h.1.0) in
    (h.0, (below, higher (n + 1) high highest rest more h.1.1))

kept_rising : (low high n : ℕ) (rest : List ℕ) (b : Bool) → low ≤ n → n < high → AreRising (n + 1) high rest → AreRising low high (cond b (n ∷ rest) rest)
kept_rising low high n rest true from below h = (from, (below, h))
kept_rising low high n rest false from below h =
    let less : low ≤ n + 1 = omega (arith, from) in
    lower (n + 1) low high rest less h

filter_rising : (low high : ℕ) (test : ℕ → Bool) (ns : List ℕ) → AreRising low high ns → AreRising low high (filter test ns)
filter_rising low high test [] h = tt
filter_rising low high test (n ∷ rest) h = kept_rising low high n (filter test rest) (test n) h.0 h.1.0 (filter_rising (n + 1) high test rest h.1.1)

with_rising : (low high n : ℕ) (ns : List ℕ) → low ≤ n → n < high → AreRising low high ns → AreRising low high (with_pid n ns)
with_rising low high n [] from below h = (from, (below, tt))
with_rising low high n (m ∷ rest) from below h = at (n == m) (nat_lt n m) refl refl (λ after. with_rising (m + 1) high n rest after below h.1.1)
  where
    at : (b c : Bool) → (n == m) ≡ b → nat_lt n m ≡ c → (m + 1 ≤ n → AreRising (m + 1) high (with_pid n rest))
        → AreRising low high (cond {A = List ℕ} b (m ∷ rest) (cond {A = List ℕ} c (n ∷ m ∷ rest) (m ∷ with_pid n rest)))
    at true c same less more = h
    at false true same less more =
        let after : n + 1 ≤ m = grind (arith, nat_tests, less) in
        (from, (below, (after, h.1)))
    at false false same less more =
        let after : m + 1 ≤ n = grind (arith, nat_tests, same, less) in
        (h.0, (h.1.0, more after))

length_rising : (low high : ℕ) (ns : List ℕ) → low ≤ high → AreRising low high ns → low + length ns ≤ high
length_rising low high [] less h = omega (arith, less)
length_rising low high (n ∷ rest) less h =
    let within : n + 1 ≤ high = omega (arith, h.1.0) in
    let all : (n + 1) + length rest ≤ high = length_rising (n + 1) high rest within h.1.1 in
    omega (arith, all, h.0)

-- a list of rising numbers without n has place for n
pub place_left : (low high n : ℕ) (ns : List ℕ) → low ≤ n → n < high → AreRising low high ns → is_among n ns ≡ false → low + length ns < high
place_left low high n [] from below h none = omega (arith, from, below)
place_left low high n (m ∷ rest) from below h none = at (m == n) (nat_lt n m) refl refl none (λ after e. place_left (m + 1) high n rest after below h.1.1 e)
  where
    at : (b c : Bool) → (m == n) ≡ b → nat_lt n m ≡ c → (b || is_among n rest) ≡ false
        → (m + 1 ≤ n → is_among n rest ≡ false → (m + 1) + length rest < high) → low + length (m ∷ rest) < high
    at true c same less e more = absurd (true≢false e)
    at false true same less e more =
        let before : n < m = grind (arith, nat_tests, less) in
        let within : m + 1 ≤ high = omega (arith, h.1.0) in
        let all : (m + 1) + length rest ≤ high = length_rising (m + 1) high rest within h.1.1 in
        omega (arith, all, before, from)
    at false false same less e more =
        let after : m + 1 ≤ n = grind (arith, nat_tests, same, less) in
        let all : (m + 1) + length rest < high = more after e in
        omega (arith, all, h.0)

-- a number in a rising list is below the list's bound
pub is_below : (low high n : ℕ) (ns : List ℕ) → AreRising low high ns → is_among n ns ≡ true → n < high
is_below low high n [] h there = absurd (true≢false (sym there))
is_below low high n (m ∷ rest) h there = at (m == n) refl there (λ e. is_below (m + 1) high n rest h.1.1 e)
  where
    at : (b : Bool) → (m == n) ≡ b → (b || is_among n rest) ≡ true → (is_among n rest ≡ true → n < high) → n < high
    at true same e more =
        let is : m ≡ n = grind (arith, nat_tests, same) in
        omega (arith, is, h.1.0)
    at false same e more = more e

-- ---- the first row of a process

loud_at : (code : Code) (goes : Goes) (b : Bool) → is_at_row goes ≡ false → (is_quiet_at code goes && b) ≡ false
loud_at code (At place) b e = cc
loud_at code (Enter m f arity) b e = refl
loud_at code Nowhere b e = refl

-- a process that hasn't begun is at a row that may take memory
fresh_loud : (code : Code) (o : Option Process) (p : Process) → o ≡ Some p → has_begun p ≡ false → IsLoud code o
fresh_loud code o p there fresh =
    subst (IsLoud code) (sym there) (loud_at code p.goes (is_calm (outcome code (record p { pending = None }))) (left_false (is_at_row p.goes) (is_waiting p.status) fresh))

number_is : (n : ℕ) → 0 < n → (n - 1) + 1 ≡ n
number_is n more = omega (arith, more)

-- a process for which the capacity isn't enough hasn't begun
pub first_row_loud : (d : Debugged) (capacity pid : ℕ) (p : Process) → HasCapacity d capacity → live_process d.node.processes pid ≡ Some p → capacity ≤ pid
    → IsLoud d.node.code (process_of d.node.processes pid)
first_row_loud d capacity pid p h live none =
    let a = alive_is (process_of d.node.processes pid) p live in
    let is : (pid - 1) + 1 ≡ pid = number_is pid (positive d.node.processes pid p a.0) in
    let above : capacity ≤ (pid - 1) + 1 = omega (arith, is, none) in
    fresh_loud d.node.code (process_of d.node.processes pid) p a.0 (h.begun (pid - 1) p (at_index d.node.processes pid p a.0) above)

-- ---- an event

none_begun : (capacity : ℕ) → BeginBelow capacity []
none_begun capacity i p e more = cc

-- a node before its first event
pub none_held : (s : State) (m : DebugState) → s ≡ empty → m.held.items ≡ [] → HasCapacity (debugged s m) (capacity_of m)
none_held s m begins none = record {
  held = subst (AreRising 0 (capacity_of m)) (sym none) tt;
  begun = subst (λ (t : State). BeginBelow (capacity_of m) t.processes) (sym begins) (none_begun (capacity_of m));
}

pub more_capacity : (d : Debugged) (capacity more : ℕ) → capacity ≤ more → HasCapacity d capacity → HasCapacity d more
more_capacity d capacity more less h = record {
  held = higher 0 capacity more d.held less h.held;
  begun = λ i p e above.
      let within : capacity ≤ i + 1 = omega (arith, less, above) in
      h.begun i p e within;
}

module _ (capacity : ℕ) where
  abbrev Capacious : Debugged → Type 0
  Capacious d = HasCapacity d capacity

  replies_capacious : (d : Debugged) (reply : DebugReply View) → Capacious d → Capacious (replies d reply).state
  replies_capacious d reply h = record { held = filter_rising 0 capacity (is_live_process d.node) d.held h.held; begun = h.begun }

  one_of : (b : Bool) (x y : DebugNext) → Capacious x.state → Capacious y.state → Capacious (cond b x y).state
  one_of true x y h k = h
  one_of false x y h k = k

  answered_capacious : (d : Debugged) (s : State) (a : Answer) → BeginBelow capacity s.processes → Capacious d → Capacious (answered d s a).state
  answered_capacious d s (Ok reply) begun h = replies_capacious (record d { node = s }) (Node reply) (record { held = h.held; begun = begun })
  answered_capacious d s (Err r) begun h = h

  node_capacious : (d : Debugged) (e : Event Listing) → steps_in e ≡ None → Capacious d → Capacious (of_node d (next d.node e)).state
  node_capacious d e other h = answered_capacious d (next d.node e).state (next d.node e).answer (next_below capacity d.node e other h.begun) h

  -- the index of a process's entry is below the capacity, if its number is
  own_below : (ps : List Process) (pid : ℕ) (p : Process) → live_process ps pid ≡ Some p → pid < capacity → (pid - 1) + 1 < capacity
  own_below ps pid p live less =
      let a = alive_is (process_of ps pid) p live in
      let is : (pid - 1) + 1 ≡ pid = number_is pid (positive ps pid p a.0) in
      omega (arith, is, less)

  replies_ok : (x y : Debugged) (held ran : DebugReply View) (b : Bool) → is_ok (cond {A = DebugNext} b (replies x held) (replies y ran)).answer ≡ true
  replies_ok x y held ran true = refl
  replies_ok x y held ran false = refl

  held_or_ran : (x : Debugged) (pid : ℕ) (held ran : DebugReply View) (b : Bool) → (b ≡ true → pid < capacity) → Capacious x
      → Capacious (cond {A = DebugNext} b (replies (record x { held = with_pid pid x.held }) held) (replies x ran)).state
  held_or_ran x pid held ran true less k =
      let from : 0 ≤ pid = omega arith in
      replies_capacious (record x { held = with_pid pid x.held }) held (record { held = with_rising 0 capacity pid x.held from (less refl) k.held; begun = k.begun })
  held_or_ran x pid held ran false less k = replies_capacious x ran k

  halted_capacious : (d : Debugged) (pid : ℕ) (h : Halting) (o : Option Process)
      → (is_ok (halted d pid h o).answer ≡ true → (h.stopped ≡ true → pid < capacity) × BeginBelow capacity h.rows.state.processes) → Capacious d → Capacious (halted d pid h o).state
  halted_capacious d pid h None runs k = k
  halted_capacious d pid h (Some p) runs k =
      let x : Debugged = after_rows d pid h.rows in
      let held : DebugReply View = Held h.rows.count in
      let ran : DebugReply View = Node (Ran h.rows.count (then_of p.status)) in
      let r = runs (replies_ok (record x { held = with_pid pid d.held }) x held ran h.stopped) in
      held_or_ran x pid held ran h.stopped r.0 (record { held = k.held; begun = r.1 })

  -- after rows of a process the capacity is enough, if it is enough for that process
  rows_capacious : (d : Debugged) (pid n : ℕ) (p : Process) (o : Option Process) → live_process d.node.processes pid ≡ Some p
      → (is_ok (halted d pid (halting d.spots (is_among pid d.passing) d.node pid n) o).answer ≡ true → CapacityFor capacity (NodeEvent (event.Steps pid n))) → Capacious d
      → Capacious (halted d pid (halting d.spots (is_among pid d.passing) d.node pid n) o).state
  rows_capacious d pid zero p o live runs k = halted_capacious d pid (halting d.spots (is_among pid d.passing) d.node pid zero) o (λ ok. (λ stops. absurd (true≢false (sym stops)), k.begun)) k
  rows_capacious d pid (suc n) p o live runs k =
      halted_capacious d pid (halting d.spots (is_among pid d.passing) d.node pid (suc n)) o
      (λ ok.
      let less : pid < capacity = runs ok (omega arith) in
      (λ stops. less, halting_below capacity pid (own_below d.node.processes pid p live less) (suc n) d.spots (is_among pid d.passing) d.node k.begun)) k

  steps_by : {R : Type 0} (d : Debugged) (halt : DebugNext) (b c : Bool)
      → (is_ok (cond {A = DebugNext} b (refuses d Stopped) (cond {A = DebugNext} c (refuses d NotReady) halt)).answer ≡ true → R)
      → ((is_ok halt.answer ≡ true → R) → Capacious halt.state) → Capacious d → Capacious (cond {A = DebugNext} b (refuses d Stopped) (cond {A = DebugNext} c (refuses d NotReady) halt)).state
  steps_by d halt true c runs more k = k
  steps_by d halt false true runs more k = k
  steps_by d halt false false runs more k = more runs

  steps_capacious : (d : Debugged) (pid n : ℕ) (o : Option Process) → live_process d.node.processes pid ≡ o
      → (is_ok (debug_steps d pid n o).answer ≡ true → CapacityFor capacity (NodeEvent (event.Steps pid n))) → Capacious d → Capacious (debug_steps d pid n o).state
  steps_capacious d pid n None live runs k = k
  steps_capacious d pid n (Some p) live runs k =
      let h : Halting = halting d.spots (is_among pid d.passing) d.node pid n in
      steps_by {R = CapacityFor capacity (NodeEvent (event.Steps pid n))} d (halts d pid h) (is_among pid d.held) (is_waiting p.status) runs
      (λ ok. rows_capacious d pid n p (process_of h.rows.state.processes pid) live ok k) k

  stepped_capacious : (d : Debugged) (pid : ℕ) (rows : Rows) (o : Option Process) → BeginBelow capacity rows.state.processes → Capacious d → Capacious (stepped d pid rows o).state
  stepped_capacious d pid rows None begun k = k
  stepped_capacious d pid rows (Some p) begun k = replies_capacious (after_rows d pid rows) (held_at rows.count (then_of p.status)) (record { held = k.held; begun = begun })

  step_by : (d : Debugged) (one : DebugNext) (b c : Bool) → (b ≡ true → Capacious one.state) → Capacious d → Capacious (cond {A = DebugNext} (b && c) one (refuses d NotReady)).state
  step_by d one true true more k = more refl
  step_by d one true false more k = k
  step_by d one false c more k = k

  -- after one row of a held process the capacity is enough
  step_one_capacious : (d : Debugged) (pid : ℕ) (o : Option Process) → live_process d.node.processes pid ≡ o → Capacious d → Capacious (debug_step_one d pid o).state
  step_one_capacious d pid None live k = k
  step_one_capacious d pid (Some p) live k =
      let rows : Rows = steps d.node pid 1 in
      step_by d (steps_one d pid rows) (is_among pid d.held) (not (is_waiting p.status))
      (λ held.
      let less : pid < capacity = is_below 0 capacity pid d.held k.held held in
      stepped_capacious d pid rows (process_of rows.state.processes pid) (steps_below capacity pid (own_below d.node.processes pid p live less) 1 d.node k.begun) k) k

  resume_capacious : (d : Debugged) (pid : ℕ) (o : Option Process) → Capacious d → Capacious (debug_resume d pid o).state
  resume_capacious d pid None k = k
  resume_capacious d pid (Some p) k =
      one_of (is_among pid d.held) (replies (record d { held = without_pid pid d.held; passing = with_pid pid d.passing }) (Node Done)) (refuses d NotReady)
      (replies_capacious (record d { held = without_pid pid d.held; passing = with_pid pid d.passing }) (Node Done)
      (record { held = filter_rising 0 capacity (λ m. not (m == pid)) d.held k.held; begun = k.begun })) k

  set_capacious : (d : Debugged) (o : Option Place) → Capacious d → Capacious (debug_set d o).state
  set_capacious d None k = k
  set_capacious d (Some place) k =
      replies_capacious (record d { spots = with_spot place d.spots }) (Node (Changed (not (is_spot place d.spots)))) (record { held = k.held; begun = k.begun })

  clear_capacious : (d : Debugged) (o : Option Place) → Capacious d → Capacious (debug_clear d o).state
  clear_capacious d None k = k
  clear_capacious d (Some place) k =
      replies_capacious (record d { spots = without_spot place d.spots }) (Node (Changed (is_spot place d.spots))) (record { held = k.held; begun = k.begun })

  inspect_capacious : (d : Debugged) (pid : ℕ) (o : Option Process) → Capacious d → Capacious (debug_inspect d pid o).state
  inspect_capacious d pid None k = k
  inspect_capacious d pid (Some p) k = replies_capacious d (Viewed (view_of d.node.code (is_among pid d.held) p)) k

  event_capacious : (d : Debugged) (e : DebugEvent Listing) → (is_ok (debug_next d e).answer ≡ true → CapacityFor capacity e) → Capacious d → Capacious (debug_next d e).state
  event_capacious d (NodeEvent (event.Steps pid n)) runs k = steps_capacious d pid n (live_process d.node.processes pid) refl runs k
  event_capacious d (NodeEvent e) runs k = node_capacious d e refl k
  event_capacious d (SetBreak spot) runs k = set_capacious d (place_named d.node.code spot) k
  event_capacious d (ClearBreak spot) runs k = clear_capacious d (place_named d.node.code spot) k
  event_capacious d (Resume pid) runs k = resume_capacious d pid (live_process d.node.processes pid) k
  event_capacious d (StepOne pid) runs k = step_one_capacious d pid (live_process d.node.processes pid) refl k
  event_capacious d (Inspect pid) runs k = inspect_capacious d pid (process_of d.node.processes pid) k

  next_is : (d new : Debugged) (e : DebugEvent Listing) (a : DebugAnswer) → debug_next d e ≡ record { answer = a; state = new } → (is_ok a ≡ true → CapacityFor capacity e) → Capacious d → Capacious new
  next_is d new e a h runs k =
      subst Capacious (ap (λ (x : DebugNext). x.state) h) (event_capacious d e (λ ok. runs (sym (ap (λ (x : DebugNext). is_ok x.answer) h) ∙ ok)) k)

  -- cut rows were asked for, so at least one row was
  granted_some : (n count : ℕ) (after : Then) → 0 < effective_rows n count after → 0 < n
  granted_some n count GoesOn more = by (nat_lt 0 count) (nat_lt count n) refl refl more
    where
      by : (b c : Bool) → nat_lt 0 count ≡ b → nat_lt count n ≡ c → 0 < cond {A = ℕ} (b && c) count n → 0 < n
      by true true e f more =
          let less : count < n = grind (arith, nat_tests, f) in
          omega (arith, less, more)
      by true false e f more = more
      by false c e f more = more
  granted_some n count Waits more = more
  granted_some n count (Ended reason value) more = more

  cut_capacity : (e : DebugEvent Listing) (reply : DebugReply View) → CapacityFor capacity e → CapacityFor capacity (debug_cut_event e (Ok reply))
  cut_capacity (NodeEvent (event.Steps pid n)) (Node (Ran count after)) h = λ more. h (granted_some n count after more)
  cut_capacity (NodeEvent (event.Steps pid n)) reply h = h
  cut_capacity e reply h = tt

  pub answers_capacious : (d new : Debugged) (e : DebugEvent Listing) (a : DebugAnswer) → DebugAnswers d e a new → (is_ok a ≡ true → CapacityFor capacity e) → Capacious d → Capacious new
  answers_capacious d new e (Err NoMemory) h runs k = subst Capacious (sym h) k
  answers_capacious d new e (Err r) h runs k = next_is d new (debug_cut_event e (Err r)) (Err r) h (λ ok. absurd (true≢false (sym ok))) k
  answers_capacious d new e (Ok reply) h runs k = next_is d new (debug_cut_event e (Ok reply)) (Ok reply) h (λ ok. cut_capacity e reply (runs refl)) k

-- ---- an answer, and rows that take effect

-- an event that runs no rows needs no capacity
pub other_capacity : (capacity : ℕ) (e : Event Listing) → steps_in e ≡ None → CapacityFor capacity (NodeEvent e)
other_capacity capacity (event.Steps pid n) other = cc
other_capacity capacity e other = tt

on_ok : {R : Type 0} (result : Result Outcome Refused) → OnOk result R → is_ok (answer_of result) ≡ true → R
on_ok (Ok outcome) h e = h
on_ok (Err refused) h e = absurd (true≢false (sym e))

pub answered_capacity : (d new : Debugged) (capacity more : ℕ) (e : DebugEvent Listing) (result : Result Outcome Refused) → DebugAnswers d e (answer_of result) new → capacity ≤ more
    → OnOk result (CapacityFor more e) → HasCapacity d capacity → HasCapacity new more
answered_capacity d new capacity more e result answers less runs h = answers_capacious more d new e (answer_of result) answers (on_ok result runs) (more_capacity d capacity more less h)

-- the capacity is enough after an event for which it was enough
pub still_capacity : (d new : Debugged) (capacity more : ℕ) (e : DebugEvent Listing) (a : DebugAnswer) → DebugAnswers d e a new → capacity ≤ more → CapacityFor more e → HasCapacity d capacity → HasCapacity new more
still_capacity d new capacity more e a answers less runs h = answers_capacious more d new e a answers (λ ok. runs) (more_capacity d capacity more less h)

pub installed_capacity : (d new : Debugged) (capacity more pid n : ℕ) (result : Result Outcome Refused)
    → IfOk result (λ outcome. debug_next d (NodeEvent (event.Steps pid n)) ≡ record { answer = Ok (reply_of outcome); state = new }) → OnErr result (new ≡ d) → capacity ≤ more
    → OnOk result (pid < more) → HasCapacity d capacity → HasCapacity new more
installed_capacity d new capacity more pid n (Ok outcome) next err less runs h =
    next_is more d new (NodeEvent (event.Steps pid n)) (Ok (reply_of outcome)) next (λ ok some. runs) (more_capacity d capacity more less h)
installed_capacity d new capacity more pid n (Err refused) next err less runs h = subst (λ x. HasCapacity x more) (sym err) (more_capacity d capacity more less h)

-- more capacity is reserved, and nothing else changes
pub reserved : (d : Debugged) (ns : List ℕ) (capacity more : ℕ) → ns ≡ d.held → capacity ≤ more → Settled d → HasCapacity d capacity
    → Settled (record d { held = ns }) × HasCapacity (record d { held = ns }) more
reserved d ns capacity more same less live h =
    subst (λ hs. Settled (record d { held = hs }) × HasCapacity (record d { held = hs }) more) (sym same) (live, more_capacity d capacity more less h)

-- rows of a short turn took effect as a `Steps`, or nothing changed
pub short_capacity : (d new : Debugged) (capacity more pid : ℕ) (result : Result (Option (ℕ × Then)) Refused) → ShortAnswers d pid result new → capacity ≤ more
    → IfOk result (λ done. OnSome done (pid < more)) → HasCapacity d capacity → HasCapacity new more
short_capacity d new capacity more pid (Ok (Some (count, after))) h less runs k =
    still_capacity d new capacity more (NodeEvent (event.Steps pid count)) (Ok (Node (Ran count after))) h less (λ some. runs) k
short_capacity d new capacity more pid (Ok None) h less runs k = subst (λ x. HasCapacity x more) (sym h) (more_capacity d capacity more less k)
short_capacity d new capacity more pid (Err refused) h less runs k = subst (λ x. HasCapacity x more) (sym h.1) (more_capacity d capacity more less k)
