use Rattle.std.proofs.Common.{◌≡◌, ◌<◌, ◌≤◌, [], ◌∷◌, false, length, map, Some, Ok, refl, sym, ap, subst, ◌∙◌, arith}
use Rattle.beam_machine.specs.declared.debug.DebugEvent.{DebugEvent}
use Rattle.beam_machine.specs.declared.debug.DebugEvent.TheVariants.{Node as NodeEvent}
use Rattle.beam_machine.specs.declared.debug.DebugReply.{DebugReply}
use Rattle.beam_machine.specs.declared.debug.DebugReply.TheVariants.{Node}
use Rattle.beam_machine.specs.declared.event.Event.TheVariants.{Steps}
use Rattle.beam_machine.specs.declared.event.Reply.TheVariants.{Ran}
use Rattle.beam_machine.specs.Prelude.{DebugAnswers, View}
use Rattle.beam_model.specs.Prelude.{Listing}
use Rattle.beam_journal.specs.Entering.{entry_of}
use Rattle.beam_receipts.specs.Receipts.{History, SeatHistory}
use Rattle.beam_shared.specs.Prelude.{AreThoseOut, checked_out_of, must_wait}
use Rattle.beam_shared.proofs.Drains.{drained_as, drained_on}
use Rattle.beam_shared.proofs.Keeping.{kept_after, kept_as, same_node}
use Rattle.beam_shared.proofs.Capacities.{more_capacity}
use Rattle.beam_shared.proofs.node.Node.short_steps.Goals as goal

pub invariant_of-self-in-Ok-None : goal.invariant_of-self-in-Ok-None
invariant_of-self-in-Ok-None g c =
    let i = c.self.inside in
    let roomy : length i.checked_out.items ≤ c.make_room.new.journal.capacity = omega (arith, c.self.invariant.0.capacity, c.make_room.ensures.kept) in
    let same : c.short_steps.new.self.state ≡ i.debugger.state = rw c.in-Ok-None.field-0-is at c.in-Ok-None.ensures.next in
    let kept = kept_as i.debugger.state c.short_steps.new.self.state i.journal c.make_room.new.journal i.keeper c.check_seat.new.self i.checked_out.items i.changes i.context c.self.invariant.0
    same c.make_room.ensures.entries c.check_seat.ensures.keeper roomy in (
      kept,
      more_capacity i.debugger c.short_steps.new.self i.checked_out.items c.short_steps.ensures.capacity c.self.invariant.1,
      c.make_room.ensures.limit ∙ c.self.invariant.2,
      subst (λ (k : History). AreThoseOut k.moves i.checked_out.items) (sym c.check_seat.ensures.keeper) c.self.invariant.3,
      drained_as i.keeper.drains c.check_seat.new.self.drains i.journal c.make_room.new.journal c.self.invariant.4 (ap (λ (k : History). k.drains) c.check_seat.ensures.keeper)
          c.make_room.ensures.entries c.make_room.ensures.drained,
    )

pub returns-in-Ok-None-clause-none : goal.returns-in-Ok-None-clause-none
returns-in-Ok-None-clause-none g c = λ is.
    let i = c.self.inside in
    let same : c.short_steps.new.self.state ≡ i.debugger.state = rw c.in-Ok-None.field-0-is at c.in-Ok-None.ensures.next in (
      same_node i.debugger.state c.short_steps.new.self.state i.journal c.make_room.new.journal i.keeper c.check_seat.new.self i.checked_out.items
          same c.make_room.ensures.entries c.make_room.ensures.drained c.make_room.ensures.limit c.check_seat.ensures.keeper ∙ c.self.view_is,
      c.check_seat.ensures.seat,
    )

pub invariant_of-self-in-Err : goal.invariant_of-self-in-Err
invariant_of-self-in-Err g c =
    let i = c.self.inside in
    let roomy : length i.checked_out.items ≤ c.make_room.new.journal.capacity = omega (arith, c.self.invariant.0.capacity, c.make_room.ensures.kept) in
    let same : c.short_steps.new.self.state ≡ i.debugger.state = c.in-Err.ensures.next.1 in
    let kept = kept_as i.debugger.state c.short_steps.new.self.state i.journal c.make_room.new.journal i.keeper c.check_seat.new.self i.checked_out.items i.changes i.context c.self.invariant.0
    same c.make_room.ensures.entries c.check_seat.ensures.keeper roomy in (
      kept,
      more_capacity i.debugger c.short_steps.new.self i.checked_out.items c.short_steps.ensures.capacity c.self.invariant.1,
      c.make_room.ensures.limit ∙ c.self.invariant.2,
      subst (λ (k : History). AreThoseOut k.moves i.checked_out.items) (sym c.check_seat.ensures.keeper) c.self.invariant.3,
      drained_as i.keeper.drains c.check_seat.new.self.drains i.journal c.make_room.new.journal c.self.invariant.4 (ap (λ (k : History). k.drains) c.check_seat.ensures.keeper)
          c.make_room.ensures.entries c.make_room.ensures.drained,
    )

pub invariant_of-self-in-Ok-Some : goal.invariant_of-self-in-Ok-Some
invariant_of-self-in-Ok-Some g c =
    let i = c.self.inside in
    let r = c.in-Ok-Some in
    let event : DebugEvent Listing = NodeEvent (Steps c.args.pid r.count) in
    let done : DebugReply View = Node (Ran r.count r.then) in
    let free : must_wait (map checked_out_of i.checked_out.items) event ≡ false = ap (λ entries. must_wait (map checked_out_of entries) event) (sym c.deref.ensures.value) ∙ (sym c.must_wait.ensures ∙ c.if-must_wait.false) in
    let roomy : length i.checked_out.items ≤ c.make_room.new.journal.capacity = omega (arith, c.self.invariant.0.capacity, c.make_room.ensures.kept) in
    let count : length c.deref-2.result.now ≡ length i.checked_out.items = ap length c.deref-2.ensures.value in
    let capacity : length i.checked_out.items ≤ c.enter_for_seat.new.journal.capacity = omega (arith, count, c.in-Ok.ensures.capacity, c.enter_for_seat.ensures.capacity) in
    let kept = kept_as i.debugger.state i.debugger.state i.journal c.make_room.new.journal i.keeper c.check_seat.new.self i.checked_out.items i.changes i.context c.self.invariant.0 refl c.make_room.ensures.entries c.check_seat.ensures.keeper roomy in
    let next : DebugAnswers i.debugger.state event (Ok done) c.short_steps.new.self.state = rw r.field-0-is at r.ensures.next in
    let number : c.check_seat.new.seat.number ≡ c.args.seat.now.number = ap (λ (s : SeatHistory). s.number) c.check_seat.ensures.seat in
    let seats : c.check_seat.new.self.given ≡ i.keeper.given = ap (λ (k : History). k.given) c.check_seat.ensures.keeper in
    let given : c.check_seat.new.seat.number < c.check_seat.new.self.given = omega (arith, c.check_seat.ensures.given, number, seats) in
    let after =
    kept_after i.debugger.state c.short_steps.new.self.state c.make_room.new.journal c.enter_for_seat.new.journal c.check_seat.new.self i.checked_out.items i.changes i.context
    event (Some c.check_seat.new.seat.number) done kept given c.recall_invariant.ensures.spots next free c.enter_for_seat.ensures.entered c.enter_for_seat.ensures.leads capacity
    c.enter_for_seat.new.keeper c.enter_for_seat.ensures.keeper in (
      after,
      more_capacity i.debugger c.short_steps.new.self i.checked_out.items c.short_steps.ensures.capacity c.self.invariant.1,
      c.enter_for_seat.ensures.limit ∙ (c.make_room.ensures.limit ∙ c.self.invariant.2),
      subst (λ moves. AreThoseOut moves i.checked_out.items) (sym (ap (λ (l : History). l.moves) (c.enter_for_seat.ensures.keeper)
          ∙ ap (λ (l : History). l.moves) c.check_seat.ensures.keeper)) c.self.invariant.3,
      drained_on i.keeper.drains c.enter_for_seat.new.keeper.drains c.make_room.new.journal c.enter_for_seat.new.journal
          (entry_of event (Some c.check_seat.new.seat.number) done ∷ [])
          (drained_as i.keeper.drains i.keeper.drains i.journal c.make_room.new.journal c.self.invariant.4 refl c.make_room.ensures.entries c.make_room.ensures.drained)
          (ap (λ (l : History). l.drains) c.enter_for_seat.ensures.keeper ∙ ap (λ (l : History). l.drains) c.check_seat.ensures.keeper)
          c.enter_for_seat.ensures.entered c.enter_for_seat.ensures.drained,
    )
