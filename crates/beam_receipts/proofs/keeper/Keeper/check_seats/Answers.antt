use Rattle.std.proofs.Common.{◌<◌, None, refl, sym, ◌∙◌, subst}
use Rattle.atomic_table.specs.Table.{keeps}
use Rattle.beam_receipts.specs.Rule.{history_of}
use Rattle.beam_receipts.proofs.Moves.{compares_as}
use Rattle.beam_receipts.proofs.keeper.Keeper.check_seats.Goals as goal

pub load-requires : goal.load-requires
load-requires g c =
    let i = c.self.invariant in
    let p = c.self.inside.pass in
    (i.1 ∙ sym i.0, subst (λ t. 0 < t.words) (sym i.0) i.2, λ s h count at bound. let r = compares_as s.views p.id p.me.0 (history_of p.me.0) None None None i.3 h at in (p.me.0, keeps, tt, r.0, (refl, r.1)))
