use Rattle.std.proofs.Common.{◌≡◌, ◌<◌, Some, None, refl, sym, ap, ◌∙◌, subst}
use Rattle.atomic_table.specs.Table.{keeps}
use Rattle.beam_receipts.specs.Rule.{history_of, ticket_claim, checkout_of, taken_in}
use Rattle.beam_receipts.proofs.Moves.{with_checkout, takes_in_as, gives_back_as, compares_as}
use Rattle.beam_receipts.proofs.keeper.Keeper.redeem.Goals as goal

pub join_seat-requires : goal.join_seat-requires
join_seat-requires g c =
    let i = c.self.invariant in
    let p = c.self.inside.pass in
    let q = c.ticket.inside.pass in
    let j = c.ticket.invariant in
    (i.1 ∙ sym i.0, j.0 ∙ sym i.0, ap (λ m. m.1) j.1, subst (λ t. 0 < t.words) (sym i.0) i.2, λ s h at apart there. takes_in_as p.id p.me.0 (history_of p.me.0) q.id q.me.0 i.3 s.views h at apart there)

pub load-requires : goal.load-requires
load-requires g c =
    let i = c.self.invariant in
    let p = c.self.inside.pass in
    let w = c.ticket.inside.pass.me.0 in
    let has : w ≡ ticket_claim (checkout_of w) = ap (λ m. m.0) c.ticket.invariant.1 in
    let x = c.join_seat.new.seat in
    let joined : x.me.0 ≡ taken_in p.me.0 w = ap (λ m. m.0) c.join_seat.ensures.2 in
    let is = with_checkout p.me.0 w x.me.0 (history_of p.me.0) (checkout_of w) joined i.3 has in
    let table = c.join_seat.ensures.0 ∙ i.1 ∙ sym i.0 in
    let words = subst (λ t. 0 < t.words) (sym i.0) i.2 in
    (table, words, λ s h count at bound. let r = compares_as s.views x.id x.me.0 (history_of p.me.0) None (Some (checkout_of w)) None is h at in (x.me.0, keeps, tt, r.0, (refl, r.1)))

pub split_seat-requires : goal.split_seat-requires
split_seat-requires g c =
    let i = c.self.invariant in
    let p = c.self.inside.pass in
    let w = c.ticket.inside.pass.me.0 in
    let has : w ≡ ticket_claim (checkout_of w) = ap (λ m. m.0) c.ticket.invariant.1 in
    let x = c.join_seat.new.seat in
    let joined : x.me.0 ≡ taken_in p.me.0 w = ap (λ m. m.0) c.join_seat.ensures.2 in
    let is = with_checkout p.me.0 w x.me.0 (history_of p.me.0) (checkout_of w) joined i.3 has in
    let table = c.join_seat.ensures.0 ∙ i.1 ∙ sym i.0 in
    let words = subst (λ t. 0 < t.words) (sym i.0) i.2 in
    let y = c.load.new.seat in
    (c.load.ensures.0 ∙ table, words, λ s h at. gives_back_as y.id y.me.0 (history_of p.me.0) None (Some (checkout_of w)) None (c.load.ensures.2.0 ∙ is) s.views h at)
