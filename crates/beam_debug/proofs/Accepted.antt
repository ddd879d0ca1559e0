-- Events that only an allocation failure refuses, and rows that memory doesn't stop before a quiet row.
use Rattle.std.proofs.Common.{◌≡◌, ℕ, zero, suc, ◌<◌, ◌≤◌, ◌==◌, ◌||◌, Bool, true, false, cond, not, List, length, refl, sym, ap, subst, ◌∙◌, arith, Ok, Err, ◌&&◌, Option, Some, None, is_ok, is_some}
use Rattle.std.proofs.lemmas.Bool.Decides.{nat_tests}
use Rattle.beam_machine.specs.declared.debug.DebugEvent.TheVariants.{SetBreak, Resume, StepOne, Inspect, Node as NodeEvent}
use Rattle.beam_machine.specs.declared.debug.Spot.{Spot}
use Rattle.beam_machine.specs.declared.event.Event.{Event}
use Rattle.beam_machine.specs.declared.event.Reply.TheVariants.{Ran}
use Rattle.beam_machine.specs.declared.event.Refused.{Refused}
use Rattle.beam_machine.specs.declared.event.Refused.TheVariants.{NoMemory, NotReady}
use Rattle.beam_machine.specs.declared.event.Then.{Then}
use Rattle.beam_machine.specs.declared.event.Then.TheVariants.{GoesOn, Waits, Ended}
use Rattle.beam_machine.specs.Prelude.{Process, is_waiting, State, process_of, live_process, Answer, Rows, next, row, row_and, running, IsLoud, LacksMemory, is_upgrade, Debugged, DebugAnswer, DebugNext, is_among, is_at_spot, Halting, no_rows, and_one, halts_or, halting, refuses, answered, halted, stepped, steps_one, debug_step_one, debug_inspect, place_named, debug_next, DebugLacksMemory}
use Rattle.beam_machine.specs.declared.debug.DebugReply.TheVariants.{Node}
use Rattle.beam_machine.specs.declared.event.Event.TheVariants as event
use Rattle.beam_model.specs.Prelude.{Listing, Place}
use Rattle.beam_machine.specs.Next.{steps}
use Rattle.beam_laws.proofs.Refusing.{stays, steps_longer}
use Rattle.beam_core.specs.Halt.{HaltsLoudly}
use Rattle.beam_debug.specs.Prelude.{Inspected, then_at, steps_in, DebugLoudly}
use Rattle.beam_debug.proofs.RowsToSpot.{standing}
use Rattle.beam_debug.proofs.Changes.{set_some, resume_held}
use Rattle.beam_debug.proofs.Debugging.{option_lives, steps_halt, of_event}

-- ---- a process stays in the list

row_longer : (s : State) (pid : ℕ) (p : Process) → running (process_of s.processes pid) ≡ Some p → length s.processes ≤ length (row s pid p).processes
row_longer s pid p runs =
    subst (λ (t : State). length s.processes ≤ length t.processes) (ap (λ o. (row_and (λ t. steps t pid zero) s pid o).state) runs) (steps_longer 1 s pid)

halts_longer : (spots : List Place) (passes : Bool) (s : State) (pid : ℕ) (rest : State → Halting) (o : Option Process) → running (process_of s.processes pid) ≡ o
    → ((t : State) → length t.processes ≤ length (rest t).rows.state.processes) → length s.processes ≤ length (halts_or rest spots passes s pid o).rows.state.processes
halts_longer spots passes s pid rest None e more = omega arith
halts_longer spots passes s pid rest (Some p) e more = at (not passes && is_at_spot spots p.goes)
  where
    at : (b : Bool) → length s.processes ≤ length (cond {A = Halting} b (no_rows s true) (and_one (rest (row s pid p)))).rows.state.processes
    at true = omega arith
    at false = omega (arith, row_longer s pid p e, more (row s pid p))

halting_longer : (n : ℕ) (spots : List Place) (passes : Bool) (s : State) (pid : ℕ) → length s.processes ≤ length (halting spots passes s pid n).rows.state.processes
halting_longer zero spots passes s pid = omega arith
halting_longer (suc n) spots passes s pid =
    halts_longer spots passes s pid (λ t. halting spots false t pid n) (running (process_of s.processes pid)) refl (λ t. halting_longer n spots false t pid)

-- ---- only an allocation failure refuses rows

either : (b : Bool) (x y : DebugNext) → is_ok x.answer ≡ true → is_ok y.answer ≡ true → is_ok (cond b x y).answer ≡ true
either true x y h k = h
either false x y h k = k

halted_ok : (d : Debugged) (pid : ℕ) (h : Halting) (p : Process) (o : Option Process) → process_of d.node.processes pid ≡ Some p
    → length d.node.processes ≤ length h.rows.state.processes → process_of h.rows.state.processes pid ≡ o → is_ok (halted d pid h o).answer ≡ true
halted_ok d pid h p None e longer there = absurd (stays d.node.processes h.rows.state.processes pid p longer e there)
halted_ok d pid h p (Some q) e longer there = either h.stopped _ _ refl refl

steps_ok : (d : Debugged) (pid n : ℕ) → then_at d.node pid ≡ Some GoesOn → is_among pid d.held ≡ false → is_ok (debug_next d (NodeEvent (event.Steps pid n))).answer ≡ true
steps_ok d pid n runs free =
    let p = standing (process_of d.node.processes pid) GoesOn runs in
    let h : Halting = halting d.spots (is_among pid d.passing) d.node pid n in
    ap (λ (x : DebugNext). is_ok x.answer) (steps_halt d pid n h runs free refl)
    ∙ halted_ok d pid h p.0 (process_of h.rows.state.processes pid) p.1 (halting_longer n d.spots (is_among pid d.passing) d.node pid) refl

positive : (n : ℕ) → 0 < n → (n == 0) ≡ false
positive n h = grind (arith, nat_tests)

pub rows_may : (d : Debugged) (pid n : ℕ) (a : DebugAnswer) → then_at d.node pid ≡ Some GoesOn → is_among pid d.held ≡ false → 0 < n
    → DebugLacksMemory d (NodeEvent (event.Steps pid n)) a
rows_may d pid n a runs free some = λ e. (positive n some, steps_ok d pid n runs free)

stepped_ok : (d : Debugged) (pid : ℕ) (rows : Rows) (p : Process) (o : Option Process) → process_of d.node.processes pid ≡ Some p
    → length d.node.processes ≤ length rows.state.processes → process_of rows.state.processes pid ≡ o → is_ok (stepped d pid rows o).answer ≡ true
stepped_ok d pid rows p None e longer there = absurd (stays d.node.processes rows.state.processes pid p longer e there)
stepped_ok d pid rows p (Some q) e longer there = refl

step_one_ok : (d : Debugged) (pid : ℕ) → then_at d.node pid ≡ Some GoesOn → is_among pid d.held ≡ true → is_ok (debug_next d (StepOne pid)).answer ≡ true
step_one_ok d pid runs held =
    let p = option_lives (process_of d.node.processes pid) runs in
    let q = standing (process_of d.node.processes pid) GoesOn runs in
    let rows : Rows = steps d.node pid 1 in
    let test : (is_among pid d.held && not (is_waiting p.0.status)) ≡ true = ap (λ b. b && not (is_waiting p.0.status)) held ∙ ap not p.2 in
    ap (λ (o : Option Process). is_ok (debug_step_one d pid o).answer) p.1
    ∙ (ap (λ b. is_ok (cond {A = DebugNext} b (steps_one d pid rows) (refuses d NotReady)).answer) test
    ∙ stepped_ok d pid rows q.0 (process_of rows.state.processes pid) q.1 (steps_longer 1 d.node pid) refl)

pub step_may : (d : Debugged) (pid : ℕ) (a : DebugAnswer) → then_at d.node pid ≡ Some GoesOn → is_among pid d.held ≡ true → DebugLacksMemory d (StepOne pid) a
step_may d pid a runs held = λ e. (refl, step_one_ok d pid runs held)

-- ---- commands

pub set_may : (d : Debugged) (spot : Spot) (place : Place) (a : DebugAnswer) → place_named d.node.code spot ≡ Some place → DebugLacksMemory d (SetBreak spot) a
set_may d spot place a e = λ h. (refl, ap (λ (x : DebugNext). is_ok x.answer) (set_some d spot place e))

pub resume_may : (d : Debugged) (pid : ℕ) (p : Process) (a : DebugAnswer) → live_process d.node.processes pid ≡ Some p → is_among pid d.held ≡ true
    → DebugLacksMemory d (Resume pid) a
resume_may d pid p a e held = λ h. (refl, ap (λ (x : DebugNext). is_ok x.answer) (resume_held d pid p e held))

inspect_ok : (d : Debugged) (pid : ℕ) (o : Option Process) → is_some o ≡ true → is_ok (debug_inspect d pid o).answer ≡ true
inspect_ok d pid None h = cc
inspect_ok d pid (Some p) h = refl

abbrev refusing : Refused → DebugAnswer
refusing r = Err r

is_no_memory : (r : Refused) → refusing r ≡ refusing NoMemory → r ≡ NoMemory
is_no_memory r e = cc

pub inspect_may : (d : Debugged) (pid : ℕ) (r : Refused) → Inspected d pid (Err r) → DebugLacksMemory d (Inspect pid) (Err r)
inspect_may d pid r h = λ e.
    let here : Inspected d pid (Err NoMemory) = subst (λ (x : Refused). Inspected d pid (Err x)) (is_no_memory r e) h in
    (refl, inspect_ok d pid (process_of d.node.processes pid) here)

-- ---- the node's other events

abbrev refused_by : Refused → Answer
refused_by r = Err r

answered_ok : (d : Debugged) (s : State) (a : Answer) → is_ok a ≡ true → is_ok (answered d s a).answer ≡ true
answered_ok d s (Ok reply) h = refl
answered_ok d s (Err r) h = cc

or_ok : (b x y : Bool) → (x ≡ true → y ≡ true) → (b || x) ≡ true → (b || y) ≡ true
or_ok true x y f h = refl
or_ok false x y f h = f h

pub event_may : (d : Debugged) (e : Event Listing) (r : Refused) (t : State) → steps_in e ≡ None → LacksMemory d.node e (Err r) t → DebugLacksMemory d (NodeEvent e) (Err r)
event_may d e r t other h = λ k.
    let may = h (ap refused_by (is_no_memory r k)) in (
      may.0,
      or_ok (is_upgrade e) (is_ok (next d.node e).answer) (is_ok (debug_next d (NodeEvent e)).answer)
          (λ ok. ap (λ (x : DebugNext). is_ok x.answer) (of_event d e other) ∙ answered_ok d (next d.node e).state (next d.node e).answer ok) may.1,
    )

pub event_loud : (d u : Debugged) (e : Event Listing) (a : DebugAnswer) → steps_in e ≡ None → DebugLoudly d (NodeEvent e) a u
event_loud d u (event.Steps pid n) a h = cc
event_loud d u e a h = tt

-- ---- where an allocation failure ends rows

pub ran_loud : (d u : Debugged) (pid n count : ℕ) (after : Then) → HaltsLoudly pid n d.node (Ok (count, Some after)) u.node
    → DebugLoudly d (NodeEvent (event.Steps pid n)) (Ok (Node (Ran count after))) u
ran_loud d u pid n count GoesOn h = h
ran_loud d u pid n count Waits h = tt
ran_loud d u pid n count (Ended reason value) h = tt

pub refused_loud : (d u : Debugged) (pid n : ℕ) (r : Refused) → r ≡ NoMemory → IsLoud d.node.code (process_of d.node.processes pid)
    → DebugLoudly d (NodeEvent (event.Steps pid n)) (Err r) u
refused_loud d u pid n r is loud = subst (λ (x : Refused). DebugLoudly d (NodeEvent (event.Steps pid n)) (Err x) u) (sym is) loud

pub loud_if : (d u : Debugged) (pid n : ℕ) (a : DebugAnswer) → a ≡ Err NoMemory → IsLoud d.node.code (process_of d.node.processes pid)
    → DebugLoudly d (NodeEvent (event.Steps pid n)) a u
loud_if d u pid n a is loud = subst (λ (x : DebugAnswer). DebugLoudly d (NodeEvent (event.Steps pid n)) x u) (sym is) loud

pub step_loud : (d u : Debugged) (pid : ℕ) (r : Refused) → r ≡ NoMemory → IsLoud d.node.code (process_of d.node.processes pid) → DebugLoudly d (StepOne pid) (Err r) u
step_loud d u pid r is loud = subst (λ (x : Refused). DebugLoudly d (StepOne pid) (Err x) u) (sym is) loud
