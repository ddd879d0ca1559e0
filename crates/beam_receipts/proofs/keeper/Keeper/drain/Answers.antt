use Rattle.std.proofs.Common.{◌≡◌, ◌<◌, Some, None, List, refl, sym, ap, ◌∙◌, subst}
use Rattle.atomic_table.specs.Table.{keeps}
use Rattle.beam_machine.specs.Prelude.{Entry}
use Rattle.beam_receipts.specs.Rule.{history_of, drain_claim, beginning_by, taken_in}
use Rattle.beam_receipts.proofs.Moves.{first, with_beginning, takes_in_as, notes_drain_as, compares_as}
use Rattle.beam_receipts.proofs.keeper.Keeper.drain.Goals as goal

pub join_seat-requires : goal.join_seat-requires
join_seat-requires g c =
    let i = c.self.invariant in
    let p = c.self.inside.pass in
    let q = c.into_seat in
    let table = q.ensures.0 ∙ ap (λ b. b.table_id) c.replace-pass.ensures.value ∙ c.receipt.invariant.0 ∙ sym i.0 in
    (i.1 ∙ sym i.0, table, q.ensures.3, subst (λ t. 0 < t.words) (sym i.0) i.2, λ s h at apart there. takes_in_as p.id p.me.0 (history_of p.me.0) q.result.id q.result.me.0 i.3 s.views h at apart there)

pub load-requires : goal.load-requires
load-requires g c =
    let i = c.self.invariant in
    let p = c.self.inside.pass in
    let w = c.into_seat.result.me.0 in
    let beginning : List Entry = beginning_by c.receipt.inside.pass.views in
    let views : c.replace-pass.result.views ≡ c.receipt.inside.pass.views = ap (λ b. b.views) c.replace-pass.ensures.value in
    let has : w ≡ drain_claim beginning = ap first (sym c.into_seat.ensures.2 ∙ views ∙ c.receipt.invariant.1) in
    let x = c.join_seat.new.seat in
    let joined : x.me.0 ≡ taken_in p.me.0 w = ap (λ m. m.0) c.join_seat.ensures.2 in
    let is = with_beginning p.me.0 w x.me.0 (history_of p.me.0) beginning joined i.3 has in
    let table = c.join_seat.ensures.0 ∙ i.1 ∙ sym i.0 in
    let words = subst (λ t. 0 < t.words) (sym i.0) i.2 in
    (table, words, λ s h count at bound. let r = compares_as s.views x.id x.me.0 (history_of p.me.0) None None (Some beginning) is h at in (x.me.0, keeps, tt, r.0, (refl, r.1)))

pub split_seat-pass-requires : goal.split_seat-pass-requires
split_seat-pass-requires g c =
    let i = c.self.invariant in
    let p = c.self.inside.pass in
    let w = c.into_seat.result.me.0 in
    let beginning : List Entry = beginning_by c.receipt.inside.pass.views in
    let views : c.replace-pass.result.views ≡ c.receipt.inside.pass.views = ap (λ b. b.views) c.replace-pass.ensures.value in
    let has : w ≡ drain_claim beginning = ap first (sym c.into_seat.ensures.2 ∙ views ∙ c.receipt.invariant.1) in
    let x = c.join_seat.new.seat in
    let joined : x.me.0 ≡ taken_in p.me.0 w = ap (λ m. m.0) c.join_seat.ensures.2 in
    let is = with_beginning p.me.0 w x.me.0 (history_of p.me.0) beginning joined i.3 has in
    let table = c.join_seat.ensures.0 ∙ i.1 ∙ sym i.0 in
    let words = subst (λ t. 0 < t.words) (sym i.0) i.2 in
    let y = c.load.new.seat in
    (c.load.ensures.0 ∙ table, words, λ s h at. notes_drain_as y.id y.me.0 (history_of p.me.0) (Some beginning) (c.load.ensures.2.0 ∙ is) s.views h at)
