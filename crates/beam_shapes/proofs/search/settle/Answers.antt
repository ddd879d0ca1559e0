use Rattle.std.proofs.Common.{◌∙◌, List, Option, length, ap, sym, subst, arith}
use Rattle.std.proofs.lemmas.Result.{err_from_is_err_and}
use Rattle.beam_model.specs.Prelude.{Shape}
use Rattle.beam_shapes.specs.Prelude.{IsBelow, room, Forces, FitsAt}
use Rattle.beam_shapes.proofs.Fits.{fails_at, fails_later, match_err}
use Rattle.beam_shapes.proofs.Looked.{looked_step, looked_same}
use Rattle.beam_shapes.proofs.search.settle.Goals as goal

pub returns-in_err-step : goal.returns-in_err-step
returns-in_err-step c =
    let p = err_from_is_err_and c.from_residual.result c.from_residual.ensures.1 in
    let e = c.in_err-step.field-0.0 in let code = c.args.code.now in let old = c.loop-at.known in
    match_err c.from_residual.result p.0 e _ _ p.1 p.2
    (fails_later code c.args.known.now old e c.loop-at.invariant.kept (fails_at code old c.next.new.self c.in-Some.at e c.next.ensures.known c.in_err-step.ensures.does))

pub loop-at-preserved : goal.loop-at-preserved
loop-at-preserved c =
    let code = c.args.code.now in let old = c.loop-at.known in let mid = c.next.new.self in let new = c.step.new.known in let at = c.in-Some.at in
    let one : Forces (λ a. FitsAt a code at) mid new = c.in_ok-step.ensures.does in record {
      kept = λ a below h. one.kept a (subst (λ (ks : List (Option Shape)). IsBelow ks a) (sym c.next.ensures.known) (c.loop-at.invariant.kept a below h)) (λ few. h.1 at few);
      places = one.long ∙ (ap length c.next.ensures.known ∙ c.loop-at.invariant.places);
      less = let r = ap room c.next.ensures.known in let l = one.less in let m = c.loop-at.invariant.less in omega (arith, r, l, m);
      looked = λ looked. looked_step code old mid new at c.next.ensures.known c.in-Some.ensures.popped one.spreads c.in_ok-step.ensures.flows (c.loop-at.invariant.looked looked);
    }

pub returns : goal.returns
returns c =
    let old = c.loop-at.known in let new = c.next.new.self in record {
      kept = λ a below h. subst (λ (ks : List (Option Shape)). IsBelow ks a) (sym c.next.ensures.known) (c.loop-at.invariant.kept a below h);
      none = c.in_default.ensures.last;
      long = ap length c.next.ensures.known ∙ c.loop-at.invariant.places;
      less = let r = ap room c.next.ensures.known in let m = c.loop-at.invariant.less in omega (arith, r, m);
      looked = λ looked. looked_same c.args.code.now old new c.next.ensures.known (c.in_default.ensures.last ∙ sym c.in_default.ensures.empty) (c.loop-at.invariant.looked looked);
    }
