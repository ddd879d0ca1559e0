use Rattle.std.proofs.Common.{◌≡◌, ◌≤◌, ◌<◌, true, [], ◌∷◌, ◌++◌, length, map, None, Ok, refl, sym, ap, subst, ◌∙◌, arith, is_some}
use Rattle.beam_machine.specs.declared.debug.DebugEvent.TheVariants.{Node as NodeEvent}
use Rattle.beam_machine.specs.declared.event.Event.TheVariants.{Steps}
use Rattle.beam_machine.specs.Prelude.{DebugNext, debug_next, debug_after, debug_cut_event, replay}
use Rattle.beam_debug.specs.Prelude.{reply_of, AreSlices}
use Rattle.beam_journal.specs.Entering.{Accepts, entry_of, in_memory}
use Rattle.beam_receipts.specs.Receipts.{History, moved_in}
use Rattle.beam_shared.specs.Prelude.{advanced, event_of, checked_in, checked_out_of, AreThoseOut, HasCapacityFor, NodeInvariant, node_of, Node, serial_of, without_entry}
use Rattle.beam_shared.proofs.CommittedRows.{not_cut, rows_answer}
use Rattle.beam_shared.proofs.Drains.{drained_as, drained_on}
use Rattle.beam_shared.proofs.Returning.{advanced_is, fewer, kept_on, kept_without, taken}
use Rattle.beam_shared.proofs.ThoseOut.{those_in}
use Rattle.beam_shared.proofs.Capacities.{more_capacity, capacity_for, capacity_without}
use Rattle.beam_shared.proofs.node.Node.enter_rows.Goals as goal

pub invariant_of-self : goal.invariant_of-self
invariant_of-self g c =
    let i = c.self.inside in (
      subst (λ checked_out. NodeInvariant i.debugger.state i.journal c.check_in.new.keeper checked_out i.changes i.context) (sym c.check_in.ensures.checked_out)
          (kept_without i.debugger.state i.journal i.keeper c.check_in.new.keeper i.checked_out.items i.changes i.context c.args.pid c.self.invariant.0 c.check_in.ensures.keeper),
      subst (λ checked_out. HasCapacityFor i.debugger checked_out) (sym c.check_in.ensures.checked_out) (capacity_without i.debugger c.args.pid i.checked_out.items c.self.invariant.1),
      c.self.invariant.2,
      subst (λ moves. AreThoseOut moves c.check_in.new.checked_out.items) (sym (ap (λ (k : History). k.moves) c.check_in.ensures.keeper))
          (subst (AreThoseOut (i.keeper.moves ++ moved_in c.args.pid ∷ [])) (sym c.check_in.ensures.checked_out) (those_in i.keeper.moves c.args.pid i.checked_out.items c.self.invariant.3)),
      drained_as i.keeper.drains c.check_in.new.keeper.drains i.journal i.journal c.self.invariant.4 (ap (λ (k : History). k.drains) c.check_in.ensures.keeper) refl refl,
    )

pub returns-then-is_full-clause-back : goal.returns-then-is_full-clause-back
returns-then-is_full-clause-back g c =
    let i = c.self.inside in
    ap (node_of i.debugger.state i.journal c.check_in.new.keeper) c.check_in.ensures.checked_out
    ∙ (taken i.debugger.state i.debugger.state i.journal i.keeper c.check_in.new.keeper i.checked_out.items c.args.pid refl c.check_in.ensures.keeper
    ∙ ap (λ n. checked_in n c.args.pid) c.self.view_is)

pub enter_without_seat-requires-clause-entry : goal.enter_without_seat-requires-clause-entry
enter_without_seat-requires-clause-entry g c = refl

pub enter_without_seat-requires-clause-accepted : goal.enter_without_seat-requires-clause-accepted
enter_without_seat-requires-clause-accepted g c =
    let i = c.self.inside in
    let rows = c.args.rows in
    let pid = c.args.pid in
    let reply = reply_of c.in-Ok.reply in
    let slices : AreSlices i.debugger.state pid rows = subst (λ (n : Node). AreSlices n.state pid rows) (sym c.self.view_is) c.requires.rows in
    let says : (debug_next i.debugger.state (event_of pid rows)).answer ≡ Ok reply = ap (λ (n : DebugNext). n.answer) c.in-Ok.ensures.next in
    subst (λ n. Accepts (replay i.journal.entries) (NodeEvent (Steps pid n)) reply) (sym c.rows_asked-asked.ensures)
    (ap (λ d. (debug_next d (debug_cut_event (event_of pid rows) (Ok reply))).answer) c.self.invariant.0.replays
    ∙ (ap (λ e. (debug_next i.debugger.state e).answer) (not_cut i.debugger.state pid rows reply slices says) ∙ says))

pub invariant_of-self-in-Ok : goal.invariant_of-self-in-Ok
invariant_of-self-in-Ok g c =
    let i = c.self.inside in
    let rows = c.args.rows in
    let pid = c.args.pid in
    let d = i.debugger.state in
    let x = c.install-installed.new.self.state in
    let j = i.journal in
    let k = c.enter_without_seat.new.journal in
    let known = i.keeper in
    let later = c.enter_without_seat.new.keeper in
    let reply = reply_of c.in-Ok.reply in
    let asked = c.rows_asked-asked.ensures in
    let slices : AreSlices d pid rows = subst (λ (n : Node). AreSlices n.state pid rows) (sym c.self.view_is) c.requires.rows in
    let says : (debug_next d (event_of pid rows)).answer ≡ Ok reply = ap (λ (n : DebugNext). n.answer) c.in-Ok.ensures.next in
    let there : is_some (serial_of pid (map checked_out_of i.checked_out.items)) ≡ true = subst (λ (n : Node). is_some (serial_of pid n.checked_out) ≡ true) (sym c.self.view_is) c.requires.checked_out in
    let less : length (without_entry pid i.checked_out.items) < length i.checked_out.items = fewer pid i.checked_out.items there in
    let capacity : length (without_entry pid i.checked_out.items) ≤ k.capacity = omega (arith, less, c.self.invariant.0.capacity, c.enter_without_seat.ensures.capacity) in
    let new = c.install-installed.new.self in
    let held = more_capacity i.debugger new (without_entry pid i.checked_out.items) c.install-installed.ensures.capacity (capacity_without i.debugger pid i.checked_out.items c.self.invariant.1) in
    let entered : k.entries ≡ j.entries ++ entry_of (event_of pid rows) None reply ∷ []
    = subst (λ n. k.entries ≡ j.entries ++ entry_of (NodeEvent (Steps pid n)) None reply ∷ []) asked c.enter_without_seat.ensures.entered in
    let leads : replay k.entries ≡ debug_after (replay j.entries) (event_of pid rows) (Ok reply)
    = subst (λ n. replay k.entries ≡ debug_after (replay j.entries) (NodeEvent (Steps pid n)) (Ok reply)) asked c.enter_without_seat.ensures.leads in
    let noted : c.check_in-2.new.keeper ≡ record known { moves = known.moves ++ moved_in pid ∷ [] } = c.check_in-2.ensures.keeper in
    let is : later ≡ record known { journal = known.journal ++ entry_of (event_of pid rows) None reply ∷ []; moves = known.moves ++ moved_in pid ∷ [] }
    = subst (λ n. later ≡ record known { journal = known.journal ++ entry_of (NodeEvent (Steps pid n)) None reply ∷ []; moves = known.moves ++ moved_in pid ∷ [] }) asked
    (c.enter_without_seat.ensures.keeper
    ∙ ap (λ (l : History). record l { journal = l.journal ++ entry_of (NodeEvent (Steps pid c.rows_asked-asked.result)) None reply ∷ [] }) noted) in
    let kept = kept_on d x j k known later i.checked_out.items i.changes i.context pid rows reply c.self.invariant.0 c.recall_invariant.ensures.spots
    (rows_answer d pid rows reply slices says x c.in-Ok.ensures.next) entered leads is capacity in (
      subst (λ checked_out. NodeInvariant x k later checked_out i.changes i.context) (sym c.check_in-2.ensures.checked_out) kept,
      subst (λ checked_out. HasCapacityFor new checked_out) (sym c.check_in-2.ensures.checked_out) held,
      c.enter_without_seat.ensures.limit ∙ c.self.invariant.2,
      subst (λ moves. AreThoseOut moves c.check_in-2.new.checked_out.items) (sym (ap (λ (l : History). l.moves) is))
          (subst (AreThoseOut (known.moves ++ moved_in pid ∷ [])) (sym c.check_in-2.ensures.checked_out) (those_in known.moves pid i.checked_out.items c.self.invariant.3)),
      drained_on known.drains later.drains j k (entry_of (event_of pid rows) None reply ∷ []) c.self.invariant.4 (ap (λ (l : History). l.drains) is) entered
          c.enter_without_seat.ensures.drained,
    )

pub invariant_of-self-in-Err : goal.invariant_of-self-in-Err
invariant_of-self-in-Err g c =
    let i = c.self.inside in
    let new = c.install-installed.new.self in
    let held = more_capacity i.debugger new (without_entry c.args.pid i.checked_out.items) c.install-installed.ensures.capacity (capacity_without i.debugger c.args.pid i.checked_out.items c.self.invariant.1) in
    let kept = kept_without i.debugger.state i.journal i.keeper c.check_in-2.new.keeper i.checked_out.items i.changes i.context c.args.pid c.self.invariant.0 c.check_in-2.ensures.keeper in (
      subst (λ checked_out. NodeInvariant c.install-installed.new.self.state i.journal c.check_in-2.new.keeper checked_out i.changes i.context) (sym c.check_in-2.ensures.checked_out)
          (subst (λ d. NodeInvariant d i.journal c.check_in-2.new.keeper (without_entry c.args.pid i.checked_out.items) i.changes i.context) (sym c.in-Err.ensures.err) kept),
      subst (λ checked_out. HasCapacityFor new checked_out) (sym c.check_in-2.ensures.checked_out) held,
      c.self.invariant.2,
      subst (λ moves. AreThoseOut moves c.check_in-2.new.checked_out.items) (sym (ap (λ (k : History). k.moves) c.check_in-2.ensures.keeper))
          (subst (AreThoseOut (i.keeper.moves ++ moved_in c.args.pid ∷ [])) (sym c.check_in-2.ensures.checked_out) (those_in i.keeper.moves c.args.pid i.checked_out.items c.self.invariant.3)),
      drained_as i.keeper.drains c.check_in-2.new.keeper.drains i.journal i.journal c.self.invariant.4 (ap (λ (k : History). k.drains) c.check_in-2.ensures.keeper) refl refl,
    )

-- the process can be held without memory, since it is checked out
pub returns-in-Err-clause-dropped : goal.returns-in-Err-clause-dropped
returns-in-Err-clause-dropped g c =
    let i = c.self.inside in
    let there : is_some (serial_of c.args.pid (map checked_out_of i.checked_out.items)) ≡ true = subst (λ (n : Node). is_some (serial_of c.args.pid n.checked_out) ≡ true) (sym c.self.view_is) c.requires.checked_out in
    let less : c.args.pid < i.debugger.capacity = capacity_for i.debugger c.args.pid i.checked_out.items c.self.invariant.1 there in (
      λ full.
          let was : in_memory i.journal.entries i.journal.drained ≡ i.journal.limit = subst (λ (n : Node). in_memory n.journal n.drained ≡ n.limit) (sym c.self.view_is) full in
          absurd (cc (c.is_full.ensures.1 was, c.if-is_full.false)),
      λ quiet. c.in-Err.ensures.quiet (quiet, less),
    )

pub returns-in-Ok-clause-commits : goal.returns-in-Ok-clause-commits
returns-in-Ok-clause-commits g c =
    let i = c.self.inside in
    let rows = c.args.rows in
    let pid = c.args.pid in
    let d = i.debugger.state in
    let x = c.install-installed.new.self.state in
    let j = i.journal in
    let k = c.enter_without_seat.new.journal in
    let known = i.keeper in
    let later = c.enter_without_seat.new.keeper in
    let reply = reply_of c.in-Ok.reply in
    let asked = c.rows_asked-asked.ensures in
    let slices : AreSlices d pid rows = subst (λ (n : Node). AreSlices n.state pid rows) (sym c.self.view_is) c.requires.rows in
    let says : (debug_next d (event_of pid rows)).answer ≡ Ok reply = ap (λ (n : DebugNext). n.answer) c.in-Ok.ensures.next in
    let entered : k.entries ≡ j.entries ++ entry_of (event_of pid rows) None reply ∷ []
    = subst (λ n. k.entries ≡ j.entries ++ entry_of (NodeEvent (Steps pid n)) None reply ∷ []) asked c.enter_without_seat.ensures.entered in
    let noted : c.check_in-2.new.keeper ≡ record known { moves = known.moves ++ moved_in pid ∷ [] } = c.check_in-2.ensures.keeper in
    let is : later ≡ record known { journal = known.journal ++ entry_of (event_of pid rows) None reply ∷ []; moves = known.moves ++ moved_in pid ∷ [] }
    = subst (λ n. later ≡ record known { journal = known.journal ++ entry_of (NodeEvent (Steps pid n)) None reply ∷ []; moves = known.moves ++ moved_in pid ∷ [] }) asked
    (c.enter_without_seat.ensures.keeper
    ∙ ap (λ (l : History). record l { journal = l.journal ++ entry_of (NodeEvent (Steps pid c.rows_asked-asked.result)) None reply ∷ [] }) noted) in (
      c.requires.some,
      λ full.
          let was : in_memory j.entries j.drained ≡ j.limit = subst (λ (n : Node). in_memory n.journal n.drained ≡ n.limit) (sym c.self.view_is) full in
          absurd (cc (c.is_full.ensures.1 was, c.if-is_full.false)),
      ap (λ (n : Node). (debug_next n.state (event_of pid rows)).answer) (sym c.self.view_is) ∙ says,
      ap (node_of x k later) c.check_in-2.ensures.checked_out
          ∙ (advanced_is d x j k known later i.checked_out.items pid rows reply c.in-Ok.ensures.next (not_cut d pid rows reply slices says) entered c.enter_without_seat.ensures.drained c.enter_without_seat.ensures.limit is
          ∙ ap (λ n. advanced n pid rows reply) c.self.view_is),
    )

pub returns-in-Err-clause-back : goal.returns-in-Err-clause-back
returns-in-Err-clause-back g c =
    let i = c.self.inside in
    ap (node_of c.install-installed.new.self.state i.journal c.check_in-2.new.keeper) c.check_in-2.ensures.checked_out
    ∙ (taken i.debugger.state c.install-installed.new.self.state i.journal i.keeper c.check_in-2.new.keeper i.checked_out.items c.args.pid c.in-Err.ensures.err c.check_in-2.ensures.keeper
    ∙ ap (λ n. checked_in n c.args.pid) c.self.view_is)
