use Rattle.std.proofs.Common.{◌≡◌, ◌+◌, [], ◌∷◌, ◌++◌, length, sym, ap, subst, ◌∙◌, arith}
use Rattle.beam_receipts.specs.Receipts.{SeatHistory}
use Rattle.beam_shared.specs.Prelude.{Node}
use Rattle.beam_recall.specs.Recalling.{AreNumbered}
use Rattle.beam_recall.proofs.Numbers.{as_many, one_more}
use Rattle.beam_recall.proofs.seating.add_seats.Goals as goal

pub returns-in_default-clause-err : goal.returns-in_default-clause-err
returns-in_default-clause-err g c = λ sent own.
    let l = c.loop-seats in
    let all : l.node.seats ≡ 4096 = c.in_default.ensures.refused.1 in
    let many : length l.seats.items ≡ l.node.seats = as_many l.node.seats l.seats.items l.invariant.0 in
    (c.entered.ensures, (c.args.number, own, omega (arith, all, many, c.len.ensures, l.seats.ok, c.loop-seats-test.true)))

pub loop-seats-preserved : goal.loop-seats-preserved
loop-seats-preserved g c =
    let l = c.loop-seats in
    let s = c.in-Ok.seat in
    let later = c.push_reserved.new.self.items in
    let own : s.number ≡ l.node.seats = ap (λ (x : SeatHistory). x.number) c.in-Ok.ensures.seat in
    let more : c.seat.new.self.seats ≡ l.node.seats + 1 = ap (λ (n : Node). n.seats) c.in-Ok.ensures.given in
    let behind : later ≡ l.seats.items ++ s ∷ [] = c.push_reserved.ensures.items ∙ ap (λ items. items ++ s ∷ []) c.in_ok-reserve.ensures.items in (
      subst (λ n. AreNumbered n later) (sym more) (subst (AreNumbered (l.node.seats + 1)) (sym behind) (one_more l.node.seats l.seats.items s l.invariant.0 own)),
      c.in-Ok.ensures.given ∙ (ap (λ (n : Node). record n { seats = l.node.seats + 1 }) l.invariant.1 ∙ ap (λ k. record c.args.node.now { seats = k }) (sym more)),
    )
