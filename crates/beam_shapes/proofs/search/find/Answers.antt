use Rattle.std.proofs.Common.{◌≡◌, [], ◌∙◌, List, length, Option, ap, sym, subst}
use Rattle.std.proofs.lemmas.Result.{err_from_is_err_and}
use Rattle.beam_model.specs.Prelude.{Assignment, Shape}
use Rattle.beam_shapes.specs.Prelude.{assigned, IsBelow, Forces, Settles, IsAssignment, BeginBare}
use Rattle.beam_shapes.proofs.Forced.{fails_as, fails_from}
use Rattle.beam_shapes.proofs.Fits.{fails_later, match_err}
use Rattle.beam_shapes.proofs.Looked.{looked_first, looked_spreads, looked_all, begins_of}
use Rattle.beam_shapes.proofs.search.find.Goals as goal

pub returns-in_err-flow : goal.returns-in_err-flow
returns-in_err-flow c =
    let p = err_from_is_err_and c.from_residual-in_err-flow.result c.from_residual-in_err-flow.ensures.1 in
    let e = c.in_err-flow.field-0.0 in
    match_err c.from_residual-in_err-flow.result p.0 e _ _ p.1 p.2 (fails_from (IsAssignment c.args.code.now) c.args.known.now c.wait.new.self e c.wait.ensures.known c.in_err-flow.ensures)

pub loop-known-init : goal.loop-known-init
loop-known-init c =
    let code = c.args.code.now in let first = c.wait.new.self in
    let one : Settles code first c.flow.new.known = c.in_ok-flow.ensures in record {
      kept = λ a below h. one.kept a (subst (λ (ks : List (Option Shape)). IsBelow ks a) (sym c.wait.ensures.known) below) h;
      places = one.long ∙ ap length c.wait.ensures.known;
      none = one.none;
      looked = one.looked (looked_first code first c.in_ok-wait.ensures.waiting);
    }

pub returns-in_err-begin_again : goal.returns-in_err-begin_again
returns-in_err-begin_again c =
    let p = err_from_is_err_and c.from_residual-in_err-begin_again.result c.from_residual-in_err-begin_again.ensures.1 in
    let e = c.in_err-begin_again.field-0.0 in let code = c.args.code.now in let old = c.loop-known.known in
    match_err c.from_residual-in_err-begin_again.result p.0 e _ _ p.1 p.2
    (fails_later code c.args.known.now old e c.loop-known.invariant.kept
    (fails_as (BeginBare code) (IsAssignment code) old e (λ a below h. begins_of a code h) c.in_err-begin_again.ensures))

pub loop-known-preserved : goal.loop-known-preserved
loop-known-preserved c =
    let code = c.args.code.now in let old = c.loop-known.known in let mid = c.begin_again.new.known in
    let one : Forces (BeginBare code) old mid = c.in_ok-begin_again.ensures in
    let two : Settles code mid c.settle.new.known = c.in_ok-settle.ensures in record {
      kept = λ a below h. two.kept a (one.kept a (c.loop-known.invariant.kept a below h) (begins_of a code h)) h;
      places = two.long ∙ (one.long ∙ c.loop-known.invariant.places);
      none = two.none;
      looked = two.looked (looked_spreads code old mid one.spreads c.loop-known.invariant.looked);
    }

pub returns-in_err-settle : goal.returns-in_err-settle
returns-in_err-settle c =
    let p = err_from_is_err_and c.from_residual-in_err-settle.result c.from_residual-in_err-settle.ensures.1 in
    let e = c.in_err-settle.field-0.0 in let code = c.args.code.now in let mid = c.begin_again.new.known in
    let one : Forces (BeginBare code) c.loop-known.known mid = c.in_ok-begin_again.ensures in
    match_err c.from_residual-in_err-settle.result p.0 e _ _ p.1 p.2
    (fails_later code c.args.known.now mid e (λ (a : Assignment) below h. one.kept a (c.loop-known.invariant.kept a below h) (begins_of a code h)) c.in_err-settle.ensures)

pub returns-then-is_settled : goal.returns-then-is_settled
returns-then-is_settled c =
    let code = c.args.code.now in let old = c.loop-known.known in let new = c.begin_again.new.known in
    let one : Forces (BeginBare code) old new = c.in_ok-begin_again.ensures in
    let none : new.waiting ≡ [] = c.is_settled.ensures.0 c.if-is_settled.true in
    let still = one.settled (ap length none ∙ sym (ap length c.loop-known.invariant.none)) in
    looked_all code new (looked_spreads code old new one.spreads c.loop-known.invariant.looked) none
    (subst (λ (ks : List (Option Shape)). BeginBare code (assigned ks)) (sym still.0) still.1)
