-- What holds of each state whose spots and processes were pruned holds after each event, by cases on the event: a reply prunes, and a
-- refusal changes nothing.
use Rattle.std.proofs.Common.{List, [], ◌∷◌, refl, filter, ◌≡◌, ℕ, Bool, true, false, cond, not, Ok, Err, ◌&&◌, Option, Some, None}
use Rattle.std.specs.List.{AllByRecursion}
use Rattle.beam_machine.specs.declared.debug.DebugEvent.{DebugEvent}
use Rattle.beam_machine.specs.declared.debug.DebugEvent.TheVariants.{SetBreak, ClearBreak, Resume, StepOne, Inspect, Node as NodeEvent}
use Rattle.beam_machine.specs.declared.event.Event.{Event}
use Rattle.beam_machine.specs.Prelude.{Process, is_waiting, State, process_of, live_process, Answer, Rows, next, Debugged, DebugNext, Halting, halting, is_among, with_pid, without_pid, with_spot, without_spot, after_rows, answered, of_node, halted, debug_steps, stepped, debug_step_one, debug_resume, debug_set, debug_clear, debug_inspect, place_named, debug_next, pruned}
use Rattle.beam_machine.specs.declared.event.Event.TheVariants as event
use Rattle.beam_model.specs.Prelude.{Listing, Place}
use Rattle.beam_machine.specs.Next.{steps}

kept_by : {T : Type 0} (test : T → Bool) (x : T) (rest : List T) (b : Bool) → test x ≡ b → AllByRecursion (λ x. test x ≡ true) rest → AllByRecursion (λ x. test x ≡ true) (cond b (x ∷ rest) rest)
kept_by test x rest true e h = (e, h)
kept_by test x rest false e h = h

pub kept : {T : Type 0} (test : T → Bool) (xs : List T) → AllByRecursion (λ x. test x ≡ true) (filter test xs)
kept test [] = tt
kept test (x ∷ xs) = kept_by test x (filter test xs) (test x) refl (kept test xs)

module _ (Settled : Debugged → Type 0) (settles : (d : Debugged) → Settled (pruned d)) where
  one_of : (b : Bool) (x y : DebugNext) → Settled x.state → Settled y.state → Settled (cond b x y).state
  one_of true x y h k = h
  one_of false x y h k = k

  answered_settled : (d : Debugged) (s : State) (a : Answer) → Settled d → Settled (answered d s a).state
  answered_settled d s (Ok reply) h = settles (record d { node = s })
  answered_settled d s (Err r) h = h

  node_settled : (d : Debugged) (e : Event Listing) → Settled d → Settled (of_node d (next d.node e)).state
  node_settled d e k = answered_settled d (next d.node e).state (next d.node e).answer k

  halted_settled : (d : Debugged) (pid : ℕ) (h : Halting) (o : Option Process) → Settled d → Settled (halted d pid h o).state
  halted_settled d pid h None k = k
  halted_settled d pid h (Some p) k =
      one_of h.stopped _ _ (settles (record (after_rows d pid h.rows) { held = with_pid pid d.held })) (settles (after_rows d pid h.rows))

  steps_settled : (d : Debugged) (pid n : ℕ) (o : Option Process) → Settled d → Settled (debug_steps d pid n o).state
  steps_settled d pid n None k = k
  steps_settled d pid n (Some p) k =
      let h : Halting = halting d.spots (is_among pid d.passing) d.node pid n in
      one_of (is_among pid d.held) _ _ k (one_of (is_waiting p.status) _ _ k (halted_settled d pid h (process_of h.rows.state.processes pid) k))

  stepped_settled : (d : Debugged) (pid : ℕ) (rows : Rows) (o : Option Process) → Settled d → Settled (stepped d pid rows o).state
  stepped_settled d pid rows None k = k
  stepped_settled d pid rows (Some p) k = settles (after_rows d pid rows)

  step_one_settled : (d : Debugged) (pid : ℕ) (o : Option Process) → Settled d → Settled (debug_step_one d pid o).state
  step_one_settled d pid None k = k
  step_one_settled d pid (Some p) k =
      let rows : Rows = steps d.node pid 1 in
      one_of (is_among pid d.held && not (is_waiting p.status)) _ _ (stepped_settled d pid rows (process_of rows.state.processes pid) k) k

  resume_settled : (d : Debugged) (pid : ℕ) (o : Option Process) → Settled d → Settled (debug_resume d pid o).state
  resume_settled d pid None k = k
  resume_settled d pid (Some p) k = one_of (is_among pid d.held) _ _ (settles (record d { held = without_pid pid d.held; passing = with_pid pid d.passing })) k

  set_settled : (d : Debugged) (o : Option Place) → Settled d → Settled (debug_set d o).state
  set_settled d None k = k
  set_settled d (Some place) k = settles (record d { spots = with_spot place d.spots })

  clear_settled : (d : Debugged) (o : Option Place) → Settled d → Settled (debug_clear d o).state
  clear_settled d None k = k
  clear_settled d (Some place) k = settles (record d { spots = without_spot place d.spots })

  inspect_settled : (d : Debugged) (pid : ℕ) (o : Option Process) → Settled d → Settled (debug_inspect d pid o).state
  inspect_settled d pid None k = k
  inspect_settled d pid (Some p) k = settles d

  pub event_settled : (d : Debugged) (e : DebugEvent Listing) → Settled d → Settled (debug_next d e).state
  event_settled d (NodeEvent (event.Steps pid n)) k = steps_settled d pid n (live_process d.node.processes pid) k
  event_settled d (NodeEvent e) k = node_settled d e k
  event_settled d (SetBreak spot) k = set_settled d (place_named d.node.code spot) k
  event_settled d (ClearBreak spot) k = clear_settled d (place_named d.node.code spot) k
  event_settled d (Resume pid) k = resume_settled d pid (live_process d.node.processes pid) k
  event_settled d (StepOne pid) k = step_one_settled d pid (live_process d.node.processes pid) k
  event_settled d (Inspect pid) k = inspect_settled d pid (process_of d.node.processes pid) k
