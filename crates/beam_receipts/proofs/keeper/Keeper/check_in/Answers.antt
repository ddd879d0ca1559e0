use Rattle.std.proofs.Common.{◌<◌, sym, ◌∙◌, subst}
use Rattle.beam_receipts.specs.Rule.{history_of}
use Rattle.beam_receipts.proofs.Moves.{checks_in_as}
use Rattle.beam_receipts.proofs.keeper.Keeper.check_in.Goals as goal

pub split_seat-requires : goal.split_seat-requires
split_seat-requires g c =
    let i = c.self.invariant in
    let p = c.self.inside.pass in
    (i.1 ∙ sym i.0, subst (λ t. 0 < t.words) (sym i.0) i.2, λ s h at. checks_in_as p.id p.me.0 (history_of p.me.0) g.P.GhostPid.pid i.3 s.views h at)
