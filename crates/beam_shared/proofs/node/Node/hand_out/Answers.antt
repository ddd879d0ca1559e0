use Rattle.std.proofs.Common.{◌≡◌, ◌≤◌, ◌<◌, ◌+◌, ◌-◌, ◌^◌, ◌++◌, ◌∷◌, [], length, map, Some, None, false, refl, rules, sym, ap, subst, ◌∙◌, arith, List, min}
use Rattle.beam_machine.specs.Prelude.{live_process}
use Rattle.beam_machine.specs.declared.event.Event.TheVariants.{Deliver}
use Rattle.beam_machine.specs.declared.debug.DebugEvent.TheVariants.{Node as NodeEvent}
use Rattle.beam_journal.specs.Entering.{NodeJournal}
use Rattle.beam_laws.specs.Prelude.{IsEarlierCode, Origin, IsOut}
use Rattle.beam_receipts.specs.Receipts.{Checkout, History, moved_out}
use Rattle.beam_rows.specs.Prelude.{AlwaysFinds}
use Rattle.beam_shared.specs.declared.checked_out.CheckoutEntry.{CheckoutEntry}
use Rattle.beam_shared.specs.Prelude.{CodeContext, process_has_incoming, deliveries, delivered_if, origin, origin_in, checked_out_of, origin_by, context_in, AreThoseOut, HasCapacityFor, NodeInvariant, must_wait, refusal_of, why_not}
use Rattle.beam_shared.proofs.Drains.{drained_as, drained_on}
use Rattle.beam_shared.proofs.Entries.{is_free}
use Rattle.beam_shared.proofs.HandedOut.{handed_out, not_out}
use Rattle.beam_shared.proofs.Keeping.{context_delivered, handed_entry, kept_as, kept_delivered, kept_with, min_is}
use Rattle.beam_shared.proofs.Numbered.{kin_there}
use Rattle.beam_shared.proofs.ThoseOut.{those_out}
use Rattle.beam_shared.proofs.Capacities.{more_capacity, capacity_with}
use Rattle.beam_shared.proofs.node.Node.hand_out.Goals as goal

pub invariant_of-self-2 : goal.invariant_of-self-2
invariant_of-self-2 g c =
    let i = c.self.inside in
    let d = i.debugger.state in
    let x = c.deliver.new.debugger.state in
    let k = c.deliver.new.journal in
    let later = c.deliver.new.keeper in
    let pid = c.args.pid in
    let b = c.has_incoming-has_incoming.result in
    let o : Origin = origin_by pid c.args.work c.args.context in
    let entry : CheckoutEntry = record { pid = pid; serial = c.serial.result; changes = i.changes } in
    let is : origin_in d pid (live_process d.node.processes pid) ≡ Some o = subst (λ n. origin n pid ≡ Some o) (sym c.self.view_is) c.requires.origin in
    let may : refusal_of d (map checked_out_of i.checked_out.items) pid ≡ None = subst (λ n. why_not n pid ≡ None) (sym c.self.view_is) c.requires.may in
    let context : c.args.context ≡ context_in d = subst (λ n. c.args.context ≡ context_in n.state) (sym c.self.view_is) c.requires.context in
    let fewer : length i.keeper.checkouts < 2 ^ 64 - 1 = subst (λ n. length n.handed < 2 ^ 64 - 1) (sym c.self.view_is) c.requires.fewer in
    let incoming : process_has_incoming (live_process d.node.processes pid) ≡ b = sym c.has_incoming-has_incoming.ensures in
    let free : must_wait (map checked_out_of i.checked_out.items) (NodeEvent (Deliver pid)) ≡ false = is_free pid i.checked_out.items (not_out d (map checked_out_of i.checked_out.items) pid may) in
    let state : x ≡ delivered_if d pid b = c.in_ok-deliver.ensures.state ∙ ap (λ y. delivered_if y pid b) c.reserve-2.ensures.state in
    let items : c.reserve.new.self.items ≡ i.checked_out.items = c.in_ok-reserve.ensures.items in
    let count : length c.deref.result.now ≡ length i.checked_out.items = ap length (c.deref.ensures.value ∙ items) in
    let capacity : length i.checked_out.items + 2 ≤ c.make_room.new.journal.capacity = omega (arith, count, c.in_ok-make_room.ensures.capacity) in
    let roomy : length i.checked_out.items ≤ c.make_room.new.journal.capacity = omega (arith, capacity) in
    let left : length i.checked_out.items + 1 ≤ k.capacity = omega (arith, capacity, c.in_ok-deliver.ensures.capacity) in
    let left_all : length i.checked_out.items ≤ k.capacity = omega (arith, left) in
    let kept = kept_as d d i.journal c.make_room.new.journal i.keeper i.keeper i.checked_out.items i.changes i.context c.self.invariant.0 refl c.make_room.ensures.entries refl roomy in
    let arrived = kept_delivered d x c.make_room.new.journal k i.keeper later i.checked_out.items i.changes i.context pid b kept c.recall_invariant.ensures.spots incoming free state
    c.in_ok-deliver.ensures.entered c.in_ok-deliver.ensures.replays c.in_ok-deliver.ensures.keeper left_all in
    let checkouts : later.checkouts ≡ i.keeper.checkouts = ap (λ (l : History). l.checkouts) c.in_ok-deliver.ensures.keeper in
    let fewer_now : length later.checkouts < 2 ^ 64 - 1 = subst (λ (l : List Origin). length l < 2 ^ 64 - 1) (sym checkouts) fewer in
    let ticket : c.hand_out-ticket.result.serial ≡ length later.checkouts = ap (λ (t : Checkout). t.serial) c.hand_out-ticket.ensures.ticket in
    let serial : c.serial.result ≡ length later.checkouts = c.serial.ensures ∙ (ap (λ n. min n (2 ^ 64 - 1)) ticket ∙ min_is (length later.checkouts) (2 ^ 64 - 1) fewer_now) in
    let same : context_in x ≡ context_in d = context_delivered d x pid b c.recall_invariant.ensures.spots incoming state in
    let own : context_in x ≡ c.args.context = same ∙ sym context in
    let kin : IsEarlierCode o.code x.node = subst (λ code. IsEarlierCode code x.node) (ap (λ (g : CodeContext). g.code) own) (kin_there x k.entries c.in_ok-deliver.ensures.replays) in
    let checked_out : IsOut x o = handed_out d x (map checked_out_of i.checked_out.items) pid o b is may incoming state in
    let handed = handed_entry x i.changes later.checkouts entry o serial refl checked_out kin refl own in
    let all = kept_with x k later c.hand_out-ticket.new.keeper i.checked_out.items entry o i.changes i.context arrived c.hand_out-ticket.ensures.keeper fewer_now left handed in
    let entries : c.push_reserved.new.self.items ≡ i.checked_out.items ++ entry ∷ [] = c.push_reserved.ensures.items ∙ ap (λ l. l ++ entry ∷ []) items in
    let more : i.debugger.capacity ≤ c.deliver.new.debugger.capacity = omega (arith, c.reserve-2.ensures.kept, c.in_ok-deliver.ensures.held_capacity) in
    let less : pid < c.deliver.new.debugger.capacity = omega (arith, c.in_ok-reserve-2.ensures.capacity, c.in_ok-deliver.ensures.held_capacity) in
    let held = capacity_with c.deliver.new.debugger i.checked_out.items entry (more_capacity i.debugger c.deliver.new.debugger i.checked_out.items more c.self.invariant.1) less in (
      subst (λ entries. NodeInvariant x k c.hand_out-ticket.new.keeper entries i.changes i.context) (sym entries) all,
      subst (λ entries. HasCapacityFor c.deliver.new.debugger entries) (sym entries) held,
      c.deliver.ensures.limit ∙ (c.make_room.ensures.limit ∙ c.self.invariant.2),
      subst (λ moves. AreThoseOut moves c.push_reserved.new.self.items) (sym (ap (λ (l : History). l.moves) c.hand_out-ticket.ensures.keeper))
          (subst (AreThoseOut (later.moves ++ moved_out pid ∷ [])) (sym entries)
          (those_out later.moves i.checked_out.items entry (subst (λ moves. AreThoseOut moves i.checked_out.items) (sym (ap (λ (l : History). l.moves) c.in_ok-deliver.ensures.keeper)) c.self.invariant.3))),
      drained_on i.keeper.drains c.hand_out-ticket.new.keeper.drains c.make_room.new.journal k (deliveries pid b)
          (drained_as i.keeper.drains i.keeper.drains i.journal c.make_room.new.journal c.self.invariant.4 refl c.make_room.ensures.entries c.make_room.ensures.drained)
          (ap (λ (l : History). l.drains) c.hand_out-ticket.ensures.keeper ∙ ap (λ (l : History). l.drains) c.in_ok-deliver.ensures.keeper)
          c.in_ok-deliver.ensures.entered c.deliver.ensures.drained,
    )

pub invariant_of-result : goal.invariant_of-result
invariant_of-result g c =
    let o : Origin = origin_by c.args.pid c.args.work c.args.context in
    let is : c.hand_out-ticket.result.origin ≡ o = ap (λ (t : Checkout). t.origin) c.hand_out-ticket.ensures.ticket in
    (search rules, search rules, search rules, subst (λ (z : Origin). AlwaysFinds z.code z.process) (sym is) c.requires.finds)

pub invariant_of-self-in_err-make_room : goal.invariant_of-self-in_err-make_room
invariant_of-self-in_err-make_room g c =
    let i = c.self.inside in
    let items : c.reserve.new.self.items ≡ i.checked_out.items = c.in_ok-reserve.ensures.items in
    let roomy : length i.checked_out.items ≤ c.make_room.new.journal.capacity = omega (arith, c.self.invariant.0.capacity, c.make_room.ensures.kept) in
    let kept = kept_as i.debugger.state c.reserve-2.new.self.state i.journal c.make_room.new.journal i.keeper i.keeper i.checked_out.items i.changes i.context c.self.invariant.0
    c.reserve-2.ensures.state c.make_room.ensures.entries refl roomy in (
      subst (λ entries. NodeInvariant c.reserve-2.new.self.state c.make_room.new.journal i.keeper entries i.changes i.context) (sym items) kept,
      subst (λ entries. HasCapacityFor c.reserve-2.new.self entries) (sym items)
          (more_capacity i.debugger c.reserve-2.new.self i.checked_out.items c.reserve-2.ensures.kept c.self.invariant.1),
      c.make_room.ensures.limit ∙ c.self.invariant.2,
      subst (λ entries. AreThoseOut i.keeper.moves entries) (sym items) c.self.invariant.3,
      drained_as i.keeper.drains i.keeper.drains i.journal c.make_room.new.journal c.self.invariant.4 refl c.make_room.ensures.entries c.make_room.ensures.drained,
    )

pub invariant_of-self-in_err-deliver : goal.invariant_of-self-in_err-deliver
invariant_of-self-in_err-deliver g c =
    let i = c.self.inside in
    let items : c.reserve.new.self.items ≡ i.checked_out.items = c.in_ok-reserve.ensures.items in
    let same : c.deliver.new.journal ≡ c.make_room.new.journal = c.in_err-deliver.ensures.err.1 in
    let keeper : c.deliver.new.keeper ≡ i.keeper = c.in_err-deliver.ensures.err.2 in
    let entries : c.deliver.new.journal.entries ≡ i.journal.entries = ap (λ (j : NodeJournal). j.entries) same ∙ c.make_room.ensures.entries in
    let drained : c.deliver.new.journal.drained ≡ i.journal.drained = ap (λ (j : NodeJournal). j.drained) same ∙ c.make_room.ensures.drained in
    let limit : c.deliver.new.journal.limit ≡ i.journal.limit = ap (λ (j : NodeJournal). j.limit) same ∙ c.make_room.ensures.limit in
    let capacity : c.deliver.new.journal.capacity ≡ c.make_room.new.journal.capacity = ap (λ (j : NodeJournal). j.capacity) same in
    let roomy : length i.checked_out.items ≤ c.deliver.new.journal.capacity = omega (arith, c.self.invariant.0.capacity, c.make_room.ensures.kept, capacity) in
    let more : i.debugger.capacity ≤ c.deliver.new.debugger.capacity = omega (arith, c.reserve-2.ensures.kept, c.deliver.ensures.held_capacity) in
    let kept = kept_as i.debugger.state c.deliver.new.debugger.state i.journal c.deliver.new.journal i.keeper c.deliver.new.keeper i.checked_out.items i.changes i.context
    c.self.invariant.0 (c.in_err-deliver.ensures.err.0 ∙ c.reserve-2.ensures.state) entries keeper roomy in (
      subst (λ entries. NodeInvariant c.deliver.new.debugger.state c.deliver.new.journal c.deliver.new.keeper entries i.changes i.context) (sym items) kept,
      subst (λ entries. HasCapacityFor c.deliver.new.debugger entries) (sym items) (more_capacity i.debugger c.deliver.new.debugger i.checked_out.items more c.self.invariant.1),
      limit ∙ c.self.invariant.2,
      subst (λ (k : History). AreThoseOut k.moves c.reserve.new.self.items) (sym keeper) (subst (λ entries. AreThoseOut i.keeper.moves entries) (sym items) c.self.invariant.3),
      drained_as i.keeper.drains c.deliver.new.keeper.drains i.journal c.deliver.new.journal c.self.invariant.4 (ap (λ (k : History). k.drains) keeper) entries drained,
    )
