-- Rows that were executed apart are an event of the node with its debugger.
use Rattle.std.proofs.Common.{◌≡◌, ℕ, ◌+◌, true, false, List, Ok, refl, sym, ap, subst, ◌∙◌, arith, Some, option_map}
use Rattle.std.proofs.lemmas.Option.{same_Some}
use Rattle.beam_machine.specs.declared.debug.DebugEvent.TheVariants.{Node as NodeEvent}
use Rattle.beam_machine.specs.declared.debug.DebugReply.{DebugReply}
use Rattle.beam_machine.specs.declared.debug.DebugReply.TheVariants.{Held, Node}
use Rattle.beam_machine.specs.declared.event.Reply.TheVariants.{Ran}
use Rattle.beam_machine.specs.declared.event.Then.{Then}
use Rattle.beam_machine.specs.Prelude.{Debugged, DebugNext, halting, halts, replies, pruned, with_pid, debug_next, Rows, Private, End, at_limit, after_row, before_node_row, at_spot, private_to_spot, Process, is_running, then_of, State, process_of, View}
use Rattle.beam_machine.specs.declared.event.Event.TheVariants as event
use Rattle.beam_model.specs.Prelude.{Place}
use Rattle.beam_machine.specs.Next.{steps}
use Rattle.beam_laws.specs.Prelude.{Origin, slice_of, CanCommit, committed, passes_after, before_halting, rows_at_end, rows_of_event}
use Rattle.beam_laws.proofs.Committing.{slice_counts, slice_at_spot, slice_node_row}
use Rattle.beam_proc.specs.Prelude.{end_of}
use Rattle.beam_proc.specs.declared.private.End.{End as TheEnd}
use Rattle.beam_proc.specs.declared.private.End.TheVariants.{AtLimit, AfterRow, BeforeNodeRow, AtSpot}
use Rattle.beam_core.specs.Installing.{AreRowsOf, Installed, node_rows}
use Rattle.beam_debug.specs.Prelude.{AreSlices}
use Rattle.beam_debug.proofs.Debugging.{ran_on, halted_ran}

-- rows of a slice are rows that the node takes
pub are_rows : (d : Debugged) (pid : ℕ) (rows : Private) → AreSlices d pid rows → AreRowsOf d.node pid rows
are_rows d pid rows h = record {
  first = h.origin.process;
  runs = h.runs;
  spots = h.origin.spots;
  passes = h.origin.passes;
  limit = h.limit;
  done = h.done ∙ ap (λ code. private_to_spot h.origin.spots h.origin.passes code h.limit h.origin.process) (sym h.can.2);
  now = h.now;
  there = subst (λ pid. process_of d.node.processes pid ≡ Some h.now) h.own h.can.0;
  still = h.can.1.0;
}

-- ---- the event

-- the event of the rows executes `count` rows, and the process isn't held after them
abbrev Runs : Debugged → ℕ → Private → ℕ → Then → State → Type 0
Runs d pid rows count after t = debug_next d (NodeEvent (event.Steps pid (rows_of_event rows))) ≡ replies (ran_on d pid count t) (Node (Ran count after))

-- the event of the rows executes `count` rows, and the process is held after them
abbrev Stops : Debugged → ℕ → Private → ℕ → State → Type 0
Stops d pid rows count t = debug_next d (NodeEvent (event.Steps pid (rows_of_event rows))) ≡ replies (record (ran_on d pid count t) { held = with_pid pid d.held }) (Held count)

module _ (d : Debugged) (o : Origin) (n : ℕ) (q : Process) (rows : Private) (is : rows ≡ slice_of o n) (can : CanCommit d o q) (runs : is_running o.process.status ≡ true)
    (after : Then) (t : State) (h : Installed d.node o.pid rows after t) where
  -- the node after the private rows
  abbrev apart : State
  apart = (committed d.node o.pid q rows).state

  reaches : (k : ℕ) → node_rows rows.end ≡ k → (steps apart o.pid k).state ≡ t
  reaches k e = ap (λ k. (steps apart o.pid k).state) (sym e) ∙ ap (λ (r : Rows). r.state) (h q can.0).0

  no_row_follows : rows_at_end rows.end ≡ 0 → node_rows rows.end ≡ 0 → Runs d o.pid rows (rows.count + node_rows rows.end) after t
  no_row_follows none also =
      slice_counts d o n (rows_at_end rows.end) q rows is can runs
      ∙ (ap (λ k. halts d o.pid (before_halting rows.count (halting d.spots (passes_after rows.count o.passes) apart o.pid k))) none
      ∙ (ap (λ (s : State). halts d o.pid (record { rows = record { count = rows.count + 0; state = s }; stopped = false })) (reaches 0 also)
      ∙ (halted_ran d o.pid (rows.count + 0) t after (h q can.0).1
      ∙ ap (λ k. replies (ran_on d o.pid (rows.count + k) t) (Node (Ran (rows.count + k) after))) (sym also))))

  node_row_follows : rows.end ≡ before_node_row → Runs d o.pid rows (rows.count + node_rows rows.end) after t
  node_row_follows e =
      let one : rows_at_end rows.end ≡ 1 = ap rows_at_end e in
      let also : node_rows rows.end ≡ 1 = ap node_rows e in
      let next = slice_node_row d o n q rows is can runs e in
      let there : process_of t.processes o.pid ≡ Some next.0 = ap (λ (s : State). process_of s.processes o.pid) (sym (reaches 1 also)) ∙ next.1 in
      let stands : then_of next.0.status ≡ after = same_Some (then_of next.0.status) after (sym (ap (option_map (λ (p : Process). then_of p.status)) there) ∙ (h q can.0).1) in
      ap (λ k. debug_next d (NodeEvent (event.Steps o.pid (rows.count + k)))) one
      ∙ (next.2
      ∙ (ap (λ (s : State). replies (ran_on d o.pid (rows.count + 1) s) (Node (Ran (rows.count + 1) (then_of next.0.status)))) (reaches 1 also)
      ∙ (ap (λ (a : Then). replies (ran_on d o.pid (rows.count + 1) t) (Node (Ran (rows.count + 1) a))) stands
      ∙ ap (λ k. replies (ran_on d o.pid (rows.count + k) t) (Node (Ran (rows.count + k) after))) (sym also))))

  rows_run : (end : End) → rows.end ≡ end → (rows.end ≡ at_spot → ⊥) → Runs d o.pid rows (rows.count + node_rows rows.end) after t
  rows_run at_limit e other = no_row_follows (ap rows_at_end e) (ap node_rows e)
  rows_run after_row e other = no_row_follows (ap rows_at_end e) (ap node_rows e)
  rows_run before_node_row e other = node_row_follows e
  rows_run at_spot e other = absurd (other e)

  rows_stop : rows.end ≡ at_spot → Stops d o.pid rows (rows.count + node_rows rows.end) t
  rows_stop e =
      let one : rows_at_end rows.end ≡ 1 = ap rows_at_end e in
      let none : node_rows rows.end ≡ 0 = ap node_rows e in
      let whole : rows.count ≡ rows.count + node_rows rows.end = omega (arith, none) in
      ap (λ k. debug_next d (NodeEvent (event.Steps o.pid (rows.count + k)))) one
      ∙ (slice_at_spot d o n q rows is can runs e
      ∙ (ap (λ (s : State). replies (record (ran_on d o.pid rows.count s) { held = with_pid o.pid d.held }) (Held rows.count)) (reaches 0 none)
      ∙ ap (λ k. replies (record (ran_on d o.pid k t) { held = with_pid o.pid d.held }) (Held k)) whole))

-- ---- rows of a slice

-- the case in which the process isn't held after the rows
pub slices_run : (d : Debugged) (pid count : ℕ) (rows : Private) (after : Then) (t : State) → AreSlices d pid rows → Installed d.node pid rows after t
    → count ≡ rows.count + node_rows rows.end → (rows.end ≡ at_spot → ⊥)
    → debug_next d (NodeEvent (event.Steps pid (rows_of_event rows))) ≡ replies (ran_on d pid count t) (Node (Ran count after))
slices_run d pid count rows after t h does is other =
    subst (λ k. Runs d pid rows k after t) (sym is)
    (subst (λ pid. Installed d.node pid rows after t → Runs d pid rows (rows.count + node_rows rows.end) after t) h.own
    (λ does. rows_run d h.origin h.limit h.now rows h.done h.can h.runs after t does rows.end refl other) does)

-- the case in which the process is held after the rows
pub slices_stop : (d : Debugged) (pid count : ℕ) (rows : Private) (after : Then) (t : State) → AreSlices d pid rows → Installed d.node pid rows after t
    → count ≡ rows.count + node_rows rows.end → rows.end ≡ at_spot
    → debug_next d (NodeEvent (event.Steps pid (rows_of_event rows))) ≡ replies (record (ran_on d pid count t) { held = with_pid pid d.held }) (Held count)
slices_stop d pid count rows after t h does is e =
    subst (λ k. Stops d pid rows k t) (sym is)
    (subst (λ pid. Installed d.node pid rows after t → Stops d pid rows (rows.count + node_rows rows.end) t) h.own
    (λ does. rows_stop d h.origin h.limit h.now rows h.done h.can h.runs after t does e) does)

-- ---- why the rows end, and the debugger's state after them

pub ends_at_spot : (end : TheEnd) → end_of end ≡ at_spot → end ≡ AtSpot
ends_at_spot AtLimit e = cc
ends_at_spot AfterRow e = cc
ends_at_spot BeforeNodeRow e = cc
ends_at_spot AtSpot e = refl

-- an answer, and the settled state after it
pub replies_with : (x : DebugNext) (reply : DebugReply View) (t : State) (spots : List Place) (held passing holds passes : List ℕ) (new : Debugged)
    → x ≡ replies (record { node = t; spots = spots; held = held; passing = passing }) reply → holds ≡ held → passes ≡ passing
    → new ≡ pruned (record { node = t; spots = spots; held = holds; passing = passes }) → x ≡ record { answer = Ok reply; state = new }
replies_with x reply t spots held passing holds passes new e h p is =
    let debug : new ≡ pruned (record { node = t; spots = spots; held = held; passing = passing }) =
    is
    ∙ (ap (λ (ns : List ℕ). pruned (record { node = t; spots = spots; held = ns; passing = passes })) h
    ∙ ap (λ (ns : List ℕ). pruned (record { node = t; spots = spots; held = held; passing = ns })) p) in
    e ∙ ap (λ (d : Debugged). record { answer = Ok reply; state = d }) (sym debug)
