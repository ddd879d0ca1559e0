use Rattle.std.proofs.Common.{◌≡◌, length, sym, ap, subst, ◌∙◌}
use Rattle.beam_machine.specs.Prelude.{replay}
use Rattle.beam_receipts.specs.Receipts.{History, SeatHistory, of_seat}
use Rattle.beam_receipts.specs.Refused.{IsDrainedAt}
use Rattle.beam_shared.specs.Prelude.{AreDrained, AreThoseOut, Node, NodeInvariant, RefusesCommand, node_of}
use Rattle.beam_shared.proofs.Drains.{drained_now}
use Rattle.beam_shared.proofs.RefusedCommands.{is_full_at, noted_is, was_refused}
use Rattle.beam_shared.proofs.ThoseOut.{waits_for}
use Rattle.beam_shared.proofs.node.Node.refuse.Goals as goal

pub note_refused-requires-clause-refused : goal.note_refused-requires-clause-refused
note_refused-requires-clause-refused g c =
    let i = c.self.inside in
    let n : Node = node_of i.debugger.state i.journal i.keeper i.checked_out.items in
    let known : History = c.check_seat.new.self in
    let s : SeatHistory = c.check_seat.new.seat in
    let same : known ≡ i.keeper = c.check_seat.ensures.keeper in
    let journal : known.journal ≡ i.journal.entries = ap (λ (h : History). h.journal) same ∙ c.self.invariant.0.known_is in
    let replays : replay known.journal ≡ i.debugger.state = ap replay journal ∙ c.self.invariant.0.replays in
    let kept : s.kept ≡ of_seat s.number known.journal
    = subst (λ (x : SeatHistory). x.kept ≡ of_seat x.number known.journal) (sym c.check_seat.ensures.seat)
    (subst (λ (h : History). c.args.seat.now.kept ≡ of_seat c.args.seat.now.number h.journal) (sym same) c.check_seat.ensures.kept) in
    let drained : IsDrainedAt known.drains (length known.journal) c.drained-drained.result
    = subst (λ drains. IsDrainedAt drains (length known.journal) c.drained-drained.result) (sym (ap (λ (h : History). h.drains) same))
    (drained_now i.keeper.drains i.journal (length known.journal) c.drained-drained.result c.self.invariant.4 (ap length journal) c.drained-drained.ensures.is) in
    let those : AreThoseOut known.moves i.checked_out.items = subst (λ (h : History). AreThoseOut h.moves i.checked_out.items) (sym same) c.self.invariant.3 in
    let refuses : RefusesCommand n c.args.event.now c.args.refusal = subst (λ x. RefusesCommand x c.args.event.now c.args.refusal) (sym c.self.view_is) c.requires in
    was_refused n known c.args.event.now journal c.drained-drained.result c.drained-drained.ensures.is s c.args.refusal replays kept drained (λ waits. waits_for known.moves c.args.event.now i.checked_out.items those waits) refuses

pub note_refused-requires-clause-full : goal.note_refused-requires-clause-full
note_refused-requires-clause-full g c =
    let i = c.self.inside in
    let n : Node = node_of i.debugger.state i.journal i.keeper i.checked_out.items in
    let known : History = c.check_seat.new.self in
    let journal : known.journal ≡ i.journal.entries = ap (λ (h : History). h.journal) c.check_seat.ensures.keeper ∙ c.self.invariant.0.known_is in
    let refuses : RefusesCommand n c.args.event.now c.args.refusal = subst (λ x. RefusesCommand x c.args.event.now c.args.refusal) (sym c.self.view_is) c.requires in
    is_full_at n known c.args.event.now journal c.drained-drained.result c.drained-drained.ensures.is g.B.NodeBrand.limit c.args.refusal c.self.invariant.2 refuses

pub invariant_of-self : goal.invariant_of-self
invariant_of-self g c =
    let i = c.self.inside in
    let same : c.note_refused.new.keeper ≡ i.keeper = c.note_refused.ensures.keeper ∙ c.check_seat.ensures.keeper in (
      subst (λ k. NodeInvariant i.debugger.state i.journal k i.checked_out.items i.changes i.context) (sym same) c.self.invariant.0,
      c.self.invariant.1,
      c.self.invariant.2,
      subst (λ (k : History). AreThoseOut k.moves i.checked_out.items) (sym same) c.self.invariant.3,
      subst (λ (k : History). AreDrained k.drains i.journal) (sym same) c.self.invariant.4,
    )

pub returns-clause-node : goal.returns-clause-node
returns-clause-node g c =
    let i = c.self.inside in
    ap (λ k. node_of i.debugger.state i.journal k i.checked_out.items) (c.note_refused.ensures.keeper ∙ c.check_seat.ensures.keeper) ∙ c.self.view_is

pub returns-clause-seat : goal.returns-clause-seat
returns-clause-seat g c =
    let i = c.self.inside in
    let known : History = c.check_seat.new.self in
    let journal : known.journal ≡ c.args.self.now.journal
    = ap (λ (h : History). h.journal) c.check_seat.ensures.keeper ∙ (c.self.invariant.0.known_is ∙ ap (λ (n : Node). n.journal) c.self.view_is) in
    let moves : known.moves ≡ c.args.self.now.moves
    = ap (λ (h : History). h.moves) c.check_seat.ensures.keeper ∙ ap (λ (n : Node). n.moves) c.self.view_is in
    let drained : c.drained-drained.result ≡ c.args.self.now.drained = c.drained-drained.ensures.is ∙ ap (λ (n : Node). n.drained) c.self.view_is in
    c.note_refused.ensures.seat
    ∙ noted_is c.args.self.now known c.drained-drained.result c.args.seat.now c.check_seat.new.seat c.args.event.now c.args.refusal journal moves drained c.check_seat.ensures.seat
