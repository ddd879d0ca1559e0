use Rattle.std.proofs.Common.{◌<◌, sym, ◌∙◌, subst}
use Rattle.beam_receipts.specs.Rule.{history_of}
use Rattle.beam_receipts.proofs.Moves.{gives_drain_receipt_as}
use Rattle.beam_receipts.proofs.keeper.Keeper.drain_receipt.Goals as goal

pub split_seat-pass-requires : goal.split_seat-pass-requires
split_seat-pass-requires g c =
    let i = c.self.invariant in
    let p = c.self.inside.pass in
    (i.1 ∙ sym i.0, subst (λ t. 0 < t.words) (sym i.0) i.2, λ s h at. gives_drain_receipt_as p.id p.me.0 (history_of p.me.0) i.3 s.views h at)
