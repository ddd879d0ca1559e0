-- Events of others leave the debugger's marks of a process as they are.
use Rattle.std.proofs.Common.{◌≡◌, ℕ, ◌==◌, true≢false, Bool, true, false, cond, not, nat_lt, List, [], ◌∷◌, refl, sym, ap, ◌∙◌, arith, ◌&&◌, ◌||◌, Option, Some, None, Ok, Err, filter}
use Rattle.std.proofs.lemmas.Bool.Decides.{nat_tests}
use Rattle.beam_machine.specs.declared.debug.DebugEvent.{DebugEvent}
use Rattle.beam_machine.specs.declared.debug.DebugEvent.TheVariants.{SetBreak, ClearBreak, Resume, StepOne, Inspect, Node as NodeEvent}
use Rattle.beam_machine.specs.declared.event.Event.{Event}
use Rattle.beam_machine.specs.declared.event.Refused.TheVariants.{NotReady}
use Rattle.beam_machine.specs.declared.event.Reply.TheVariants.{Done}
use Rattle.beam_machine.specs.Prelude.{Process, is_waiting, State, process_of, live_process, Answer, Rows, next, Debugged, DebugNext, is_among, is_live_process, with_pid, without_pid, with_spot, without_spot, passes_on, after_rows, Halting, halting, refuses, replies, pruned, answered, halted, debug_steps, stepped, debug_step_one, debug_resume, debug_set, debug_clear, debug_inspect, place_named, debug_next}
use Rattle.beam_machine.specs.declared.debug.DebugReply.TheVariants.{Node}
use Rattle.beam_machine.specs.declared.event.Event.TheVariants as event
use Rattle.beam_model.specs.Prelude.{Listing, Place}
use Rattle.beam_machine.specs.Next.{steps}
use Rattle.beam_laws.specs.Prelude.{is_busy}

module _ (pid : ℕ) where
  -- ---- sets of pids

  among_filter : (test : ℕ → Bool) (ns : List ℕ) → test pid ≡ true → is_among pid (filter test ns) ≡ is_among pid ns
  among_filter test [] h = refl
  among_filter test (m ∷ rest) h = by (test m) (m == pid) refl refl (among_filter test rest h)
    where
      by : (b c : Bool) → test m ≡ b → (m == pid) ≡ c → is_among pid (filter test rest) ≡ is_among pid rest
          → is_among pid (cond b (m ∷ filter test rest) (filter test rest)) ≡ (m == pid) || is_among pid rest
      by true c kept e more = ap (λ x. (m == pid) || x) more
      by false false gone e more = more ∙ ap (λ b. b || is_among pid rest) (sym e)
      by false true gone e more =
          let same : m ≡ pid = grind (arith, nat_tests) in
          absurd (true≢false (sym h ∙ (ap test (sym same) ∙ gone)))

  among_with : (at : ℕ) (ns : List ℕ) → (at == pid) ≡ false → is_among pid (with_pid at ns) ≡ is_among pid ns
  among_with at [] h = ap (λ b. b || false) h
  among_with at (m ∷ rest) h = by (at == m) (nat_lt at m) (among_with at rest h)
    where
      by : (b c : Bool) → is_among pid (with_pid at rest) ≡ is_among pid rest
          → is_among pid (cond b (m ∷ rest) (cond c (at ∷ m ∷ rest) (m ∷ with_pid at rest))) ≡ is_among pid (m ∷ rest)
      by true c more = refl
      by false true more = ap (λ b. b || is_among pid (m ∷ rest)) h
      by false false more = ap (λ b. (m == pid) || b) more

  other_way : (at : ℕ) → (at == pid) ≡ false → (pid == at) ≡ false
  other_way at h = grind (arith, nat_tests)

  among_without : (at : ℕ) (ns : List ℕ) → (at == pid) ≡ false → is_among pid (without_pid at ns) ≡ is_among pid ns
  among_without at ns h = among_filter (λ m. not (m == at)) ns (ap not (other_way at h))

  among_passes_on : (count at : ℕ) (ns : List ℕ) → (at == pid) ≡ false → is_among pid (passes_on count at ns) ≡ is_among pid ns
  among_passes_on count at ns h = by (nat_lt 0 count)
    where
      by : (b : Bool) → is_among pid (cond b (without_pid at ns) ns) ≡ is_among pid ns
      by true = among_without at ns h
      by false = refl

  -- ---- the marks of a process that lives on

  abbrev pub Marked : Debugged → Debugged → Type 0
  Marked d x = is_live_process x.node pid ≡ true → (is_among pid x.held ≡ is_among pid d.held) × (is_among pid x.passing ≡ is_among pid d.passing)

  unmarked : (d : Debugged) → Marked d d
  unmarked d live = (refl, refl)

  replied_marks : (d x : Debugged) → is_among pid x.held ≡ is_among pid d.held → is_among pid x.passing ≡ is_among pid d.passing → Marked d (pruned x)
  replied_marks d x held passing live =
      (among_filter (is_live_process x.node) x.held live ∙ held, among_filter (is_live_process x.node) x.passing live ∙ passing)

  one_of : (d : Debugged) (b : Bool) (x y : DebugNext) → (b ≡ true → Marked d x.state) → (b ≡ false → Marked d y.state) → Marked d (cond b x y).state
  one_of d true x y h k = h refl
  one_of d false x y h k = k refl

  rows_marks : (d : Debugged) (at : ℕ) (rows : Rows) (held : List ℕ) → (at == pid) ≡ false → is_among pid held ≡ is_among pid d.held → Marked d (pruned (record (after_rows d at rows) { held = held }))
  rows_marks d at rows held h same = replied_marks d (record (after_rows d at rows) { held = held }) same (among_passes_on rows.count at d.passing h)

  halted_marks : (d : Debugged) (at : ℕ) (rows : Halting) (o : Option Process) → (at == pid) ≡ false → Marked d (halted d at rows o).state
  halted_marks d at rows None h = unmarked d
  halted_marks d at rows (Some p) h =
      one_of d rows.stopped _ _ (λ e. rows_marks d at rows.rows (with_pid at d.held) h (among_with at d.held h)) (λ e. rows_marks d at rows.rows d.held h refl)

  steps_marks : (d : Debugged) (at n : ℕ) (o : Option Process) → (at == pid) ≡ false → Marked d (debug_steps d at n o).state
  steps_marks d at n None h = unmarked d
  steps_marks d at n (Some p) h =
      let rows : Halting = halting d.spots (is_among at d.passing) d.node at n in
      one_of d (is_among at d.held) _ _ (λ e. unmarked d) (λ e. one_of d (is_waiting p.status) _ _ (λ e. unmarked d) (λ e. halted_marks d at rows (process_of rows.rows.state.processes at) h))

  stepped_marks : (d : Debugged) (at : ℕ) (rows : Rows) (o : Option Process) → (at == pid) ≡ false → Marked d (stepped d at rows o).state
  stepped_marks d at rows None h = unmarked d
  stepped_marks d at rows (Some p) h = rows_marks d at rows d.held h refl

  step_one_marks : (d : Debugged) (at : ℕ) (o : Option Process) → (at == pid) ≡ false → Marked d (debug_step_one d at o).state
  step_one_marks d at None h = unmarked d
  step_one_marks d at (Some p) h =
      let rows : Rows = steps d.node at 1 in
      one_of d (is_among at d.held && not (is_waiting p.status)) _ _ (λ e. stepped_marks d at rows (process_of rows.state.processes at) h) (λ e. unmarked d)

  -- a process that isn't held can't be let go
  let_go : (d : Debugged) (at : ℕ) → is_among pid d.held ≡ false → is_among at d.held ≡ true → (at == pid) ≡ false
  let_go d at free held = by (at == pid) refl
    where
      by : (b : Bool) → (at == pid) ≡ b → b ≡ false
      by false e = refl
      by true e =
          let same : at ≡ pid = grind (arith, nat_tests) in
          absurd (true≢false (sym held ∙ (ap (λ n. is_among n d.held) same ∙ free)))

  resume_marks : (d : Debugged) (at : ℕ) (o : Option Process) → is_among pid d.held ≡ false → Marked d (debug_resume d at o).state
  resume_marks d at None free = unmarked d
  resume_marks d at (Some p) free =
      let x : Debugged = record d { held = without_pid at d.held; passing = with_pid at d.passing } in
      one_of d (is_among at d.held) (replies x (Node Done)) (refuses d NotReady)
      (λ e. replied_marks d x (among_without at d.held (let_go d at free e)) (among_with at d.passing (let_go d at free e))) (λ e. unmarked d)

  node_marks : (d : Debugged) (s : State) (a : Answer) → Marked d (answered d s a).state
  node_marks d s (Ok reply) = replied_marks d (record d { node = s }) refl refl
  node_marks d s (Err r) = unmarked d

  set_marks : (d : Debugged) (o : Option Place) → Marked d (debug_set d o).state
  set_marks d None = unmarked d
  set_marks d (Some place) = replied_marks d (record d { spots = with_spot place d.spots }) refl refl

  clear_marks : (d : Debugged) (o : Option Place) → Marked d (debug_clear d o).state
  clear_marks d None = unmarked d
  clear_marks d (Some place) = replied_marks d (record d { spots = without_spot place d.spots }) refl refl

  inspect_marks : (d : Debugged) (at : ℕ) (o : Option Process) → Marked d (debug_inspect d at o).state
  inspect_marks d at None = unmarked d
  inspect_marks d at (Some p) = replied_marks d d refl refl

  event_of_node : (d : Debugged) (e : Event Listing) → Marked d (answered d (next d.node e).state (next d.node e).answer).state
  event_of_node d e = node_marks d (next d.node e).state (next d.node e).answer

  pub event_marks : (d : Debugged) (e : DebugEvent Listing) → is_among pid d.held ≡ false → is_busy pid e ≡ false → Marked d (debug_next d e).state
  event_marks d (NodeEvent (event.Steps at n)) free h = steps_marks d at n (live_process d.node.processes at) h
  event_marks d (NodeEvent e) free h = event_of_node d e
  event_marks d (SetBreak spot) free h = set_marks d (place_named d.node.code spot)
  event_marks d (ClearBreak spot) free h = clear_marks d (place_named d.node.code spot)
  event_marks d (Resume at) free h = resume_marks d at (live_process d.node.processes at) free
  event_marks d (StepOne at) free h = step_one_marks d at (live_process d.node.processes at) h
  event_marks d (Inspect at) free h = inspect_marks d at (process_of d.node.processes at)
