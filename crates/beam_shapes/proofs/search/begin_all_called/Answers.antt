use Rattle.std.proofs.Common.{◌≡◌, ◌∙◌, ◌<◌, length, ap, subst, arith, ℕ}
use Rattle.std.proofs.lemmas.Result.{err_from_is_err_and}
use Rattle.beam_shapes.specs.Prelude.{Forces, BeginsAt, BeginBelow}
use Rattle.beam_shapes.proofs.Fits.{does_err}
use Rattle.beam_shapes.proofs.Looked.{forces_row, fails_row}
use Rattle.beam_shapes.proofs.search.begin_all_called.Goals as goal

pub loop-at-preserved : goal.loop-at-preserved
loop-at-preserved c =
    let one : Forces (λ a. BeginsAt a c.args.code.now c.loop-at.at) c.loop-at.known c.begin_called.new.known = c.in_ok-begin_called.ensures in record {
      places = one.long ∙ c.loop-at.invariant.places;
      forces = forces_row c.args.code.now c.loop-at.at c.args.known.now c.loop-at.known c.begin_called.new.known c.loop-at.invariant.forces one;
    }

pub returns-in_err-begin_called : goal.returns-in_err-begin_called
returns-in_err-begin_called c =
    let p = err_from_is_err_and c.from_residual.result c.from_residual.ensures.1 in
    let e = c.in_err-begin_called.field-0.0 in let code = c.args.code.now in
    let few : c.loop-at.at < length code = let e = ap length c.instructions-at-end.ensures in omega (arith, e, c.loop-at-test.true) in
    does_err c.from_residual.result p.0 e (λ a. BeginBelow a code (length code)) c.args.known.now c.begin_called.new.known p.1 p.2
    (fails_row code c.loop-at.at (length code) few c.args.known.now c.loop-at.known e c.loop-at.invariant.forces c.in_err-begin_called.ensures)

pub returns : goal.returns
returns c =
    let code = c.args.code.now in let new = c.loop-at.known in
    let here : c.loop-at.at ≡ length code = let e = ap length c.instructions-at-end.ensures in omega (arith, e, c.loop-at-test.false, c.loop-at.auto.at-end) in
    subst (λ (n : ℕ). Forces (λ a. BeginBelow a code n) c.args.known.now new) here c.loop-at.invariant.forces
