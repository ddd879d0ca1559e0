use Rattle.std.proofs.Common.{◌≡◌, ◌≢◌, ◌≤◌, [], ◌∷◌, ◌++◌, List, false, length, map, None, Ok, Err, refl, sym, ap, subst, ◌∙◌, arith}
use Rattle.beam_machine.specs.Prelude.{DebugAnswers, DebugNext, Entry, debug_after, debug_cut_event, debug_next}
use Rattle.beam_debug.specs.Prelude.{reply_of}
use Rattle.beam_journal.specs.Entering.{entry_of, in_memory}
use Rattle.beam_receipts.specs.Receipts.{History}
use Rattle.beam_receipts.specs.declared.refusal.Refusal.TheVariants.{Node as OfNode}
use Rattle.beam_shared.specs.Prelude.{AreThoseOut, Node, accepted_without_seat, context_after, checked_out_of, node_of, NodeInvariant, must_wait, RefusesCommand}
use Rattle.beam_shared.proofs.Drains.{drained_as, drained_on}
use Rattle.beam_shared.proofs.Keeping.{kept_after, kept_as, same_node}
use Rattle.beam_shared.proofs.Refused.{nothing_changed, it_refuses_command}
use Rattle.beam_shared.proofs.Capacities.{more_capacity}
use Rattle.beam_shared.proofs.node.Node.replay_event.Goals as goal

pub invariant_of-self-in-Err : goal.invariant_of-self-in-Err
invariant_of-self-in-Err g c =
    let i = c.self.inside in
    let roomy : length i.checked_out.items ≤ c.make_room.new.journal.capacity = omega (arith, c.self.invariant.0.capacity, c.make_room.ensures.kept) in
    let next : DebugAnswers i.debugger.state c.args.event (Err c.in-Err.refused) c.apply.new.self.state = c.in-Err.ensures.next in
    let kept = kept_as i.debugger.state c.apply.new.self.state i.journal c.make_room.new.journal i.keeper i.keeper i.checked_out.items i.changes i.context c.self.invariant.0
    (nothing_changed i.debugger.state c.apply.new.self.state c.args.event c.in-Err.refused next) c.make_room.ensures.entries refl roomy in (
      kept,
      more_capacity i.debugger c.apply.new.self i.checked_out.items c.apply.ensures.capacity c.self.invariant.1,
      c.make_room.ensures.limit ∙ c.self.invariant.2,
      c.self.invariant.3,
      drained_as i.keeper.drains i.keeper.drains i.journal c.make_room.new.journal c.self.invariant.4 refl c.make_room.ensures.entries c.make_room.ensures.drained,
    )

pub returns-in-Err-clause-refused : goal.returns-in-Err-clause-refused
returns-in-Err-clause-refused g c =
    let i = c.self.inside in
    let few : in_memory i.journal.entries i.journal.drained ≢ i.journal.limit = λ full. absurd (cc (c.is_full.ensures.1 full, c.if-is_full.false)) in
    let free : must_wait (map checked_out_of i.checked_out.items) c.args.event ≡ false = ap (λ entries. must_wait (map checked_out_of entries) c.args.event) (sym c.deref.ensures.value) ∙ (sym c.must_wait.ensures ∙ c.if-must_wait.false) in
    let next : DebugAnswers i.debugger.state c.args.event (Err c.in-Err.refused) c.apply.new.self.state = c.in-Err.ensures.next in
    subst (λ n. RefusesCommand n c.args.event (OfNode c.in-Err.refused)) c.self.view_is
    (it_refuses_command (node_of i.debugger.state i.journal i.keeper i.checked_out.items) c.apply.new.self.state c.args.event c.in-Err.refused few free next)

pub returns-in-Err-clause-err : goal.returns-in-Err-clause-err
returns-in-Err-clause-err g c =
    let i = c.self.inside in
    let next : DebugAnswers i.debugger.state c.args.event (Err c.in-Err.refused) c.apply.new.self.state = c.in-Err.ensures.next in
    same_node i.debugger.state c.apply.new.self.state i.journal c.make_room.new.journal i.keeper i.keeper i.checked_out.items
    (nothing_changed i.debugger.state c.apply.new.self.state c.args.event c.in-Err.refused next) c.make_room.ensures.entries c.make_room.ensures.drained c.make_room.ensures.limit refl
    ∙ c.self.view_is

pub invariant_of-self-2 : goal.invariant_of-self-2
invariant_of-self-2 g c =
    let i = c.self.inside in
    let free : must_wait (map checked_out_of i.checked_out.items) c.args.event ≡ false = ap (λ entries. must_wait (map checked_out_of entries) c.args.event) (sym c.deref.ensures.value) ∙ (sym c.must_wait.ensures ∙ c.if-must_wait.false) in
    let roomy : length i.checked_out.items ≤ c.make_room.new.journal.capacity = omega (arith, c.self.invariant.0.capacity, c.make_room.ensures.kept) in
    let count : length c.deref-2.result.now ≡ length i.checked_out.items = ap length c.deref-2.ensures.value in
    let capacity : length i.checked_out.items ≤ c.enter_without_seat.new.journal.capacity = omega (arith, count, c.in_ok-make_room.ensures.capacity, c.enter_without_seat.ensures.capacity) in
    let kept = kept_as i.debugger.state i.debugger.state i.journal c.make_room.new.journal i.keeper i.keeper i.checked_out.items i.changes i.context c.self.invariant.0 refl c.make_room.ensures.entries refl roomy in
    let next : DebugAnswers i.debugger.state c.args.event (Ok (reply_of c.in-Ok.reply)) c.apply.new.self.state = c.in-Ok.ensures.next in
    let after =
    kept_after i.debugger.state c.apply.new.self.state c.make_room.new.journal c.enter_without_seat.new.journal i.keeper i.checked_out.items i.changes i.context
    c.args.event None (reply_of c.in-Ok.reply) kept tt c.recall_invariant.ensures.spots next free c.enter_without_seat.ensures.entered c.enter_without_seat.ensures.leads capacity
    c.enter_without_seat.new.keeper c.enter_without_seat.ensures.keeper in
    let changed = subst (λ n. NodeInvariant c.apply.new.self.state c.enter_without_seat.new.journal c.enter_without_seat.new.keeper i.checked_out.items n (context_after c.args.event i.context)) (sym c.note_change.ensures.changes) after in (
      subst (λ context. NodeInvariant c.apply.new.self.state c.enter_without_seat.new.journal c.enter_without_seat.new.keeper i.checked_out.items c.note_change.new.changes context) (sym c.note_change.ensures.context) changed,
      more_capacity i.debugger c.apply.new.self i.checked_out.items c.apply.ensures.capacity c.self.invariant.1,
      c.enter_without_seat.ensures.limit ∙ (c.make_room.ensures.limit ∙ c.self.invariant.2),
      subst (λ moves. AreThoseOut moves i.checked_out.items) (sym (ap (λ (l : History). l.moves) c.enter_without_seat.ensures.keeper)) c.self.invariant.3,
      drained_on i.keeper.drains c.enter_without_seat.new.keeper.drains c.make_room.new.journal c.enter_without_seat.new.journal
          (entry_of c.args.event None (reply_of c.in-Ok.reply) ∷ [])
          (drained_as i.keeper.drains i.keeper.drains i.journal c.make_room.new.journal c.self.invariant.4 refl c.make_room.ensures.entries c.make_room.ensures.drained)
          (ap (λ (l : History). l.drains) c.enter_without_seat.ensures.keeper) c.enter_without_seat.ensures.entered c.enter_without_seat.ensures.drained,
    )

pub invariant_of-self : goal.invariant_of-self
invariant_of-self g c =
    let i = c.self.inside in
    let roomy : length i.checked_out.items ≤ c.make_room.new.journal.capacity = omega (arith, c.self.invariant.0.capacity, c.make_room.ensures.kept) in (
      kept_as i.debugger.state i.debugger.state i.journal c.make_room.new.journal i.keeper i.keeper i.checked_out.items i.changes i.context c.self.invariant.0 refl
          c.make_room.ensures.entries refl roomy,
      c.self.invariant.1,
      c.make_room.ensures.limit ∙ c.self.invariant.2,
      c.self.invariant.3,
      drained_as i.keeper.drains i.keeper.drains i.journal c.make_room.new.journal c.self.invariant.4 refl c.make_room.ensures.entries c.make_room.ensures.drained,
    )

pub returns-clause-reply : goal.returns-clause-reply
returns-clause-reply g c =
    let i = c.self.inside in
    let r = reply_of c.in-Ok.reply in
    let next : DebugAnswers i.debugger.state c.args.event (Ok r) c.apply.new.self.state = c.in-Ok.ensures.next in
    ap (λ (n : Node). (debug_next n.state (debug_cut_event c.args.event (Ok r))).answer) (sym c.self.view_is) ∙ ap (λ (n : DebugNext). n.answer) next

pub returns-clause-node : goal.returns-clause-node
returns-clause-node g c =
    let i = c.self.inside in
    let r = reply_of c.in-Ok.reply in
    let e : Entry = entry_of c.args.event None r in
    let next : DebugAnswers i.debugger.state c.args.event (Ok r) c.apply.new.self.state = c.in-Ok.ensures.next in
    let state : c.apply.new.self.state ≡ debug_after i.debugger.state c.args.event (Ok r) = sym (ap (λ (n : DebugNext). n.state) next) in
    let journal : c.enter_without_seat.new.journal.entries ≡ i.journal.entries ++ e ∷ []
    = c.enter_without_seat.ensures.entered ∙ ap (λ (es : List Entry). es ++ e ∷ []) c.make_room.ensures.entries in
    let drained : c.enter_without_seat.new.journal.drained ≡ i.journal.drained = c.enter_without_seat.ensures.drained ∙ c.make_room.ensures.drained in
    let limit : c.enter_without_seat.new.journal.limit ≡ i.journal.limit = c.enter_without_seat.ensures.limit ∙ c.make_room.ensures.limit in
    let is : c.enter_without_seat.new.keeper ≡ record i.keeper { journal = i.keeper.journal ++ e ∷ [] } = c.enter_without_seat.ensures.keeper in
    (λ t. record (node_of (state t) c.enter_without_seat.new.journal (is t) i.checked_out.items) { journal = journal t; drained = drained t; limit = limit t })
    ∙ ap (λ (n : Node). accepted_without_seat n c.args.event r) c.self.view_is
