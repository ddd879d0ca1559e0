use Rattle.std.proofs.Common.{◌<◌, None, sym, ◌∙◌, subst}
use Rattle.beam_receipts.specs.Rule.{history_of}
use Rattle.beam_receipts.proofs.Moves.{enters_as}
use Rattle.beam_receipts.proofs.keeper.Keeper.enter_without_seat.Goals as goal

pub split_seat-requires : goal.split_seat-requires
split_seat-requires g c =
    let i = c.self.invariant in
    let p = c.self.inside.pass in
    (i.1 ∙ sym i.0, subst (λ t. 0 < t.words) (sym i.0) i.2, λ s h at. enters_as p.id p.me.0 (history_of p.me.0) None g.E.GhostEntry.entry i.3 (sym c.requires.alone) s.views h at)
