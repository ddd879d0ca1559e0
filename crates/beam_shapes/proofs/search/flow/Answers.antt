use Rattle.std.proofs.Common.{◌≡◌, true}
use Rattle.std.specs.List.{list_all}
use Rattle.std.proofs.lemmas.Result.{err_from_is_err_and}
use Rattle.beam_model.specs.Prelude.{begins_bare, entries}
use Rattle.beam_shapes.specs.Prelude.{IsAssignment}
use Rattle.beam_shapes.proofs.Forced.{fails_as}
use Rattle.beam_shapes.proofs.Fits.{match_err, settles_from}
use Rattle.beam_shapes.proofs.search.flow.Goals as goal

pub returns-in_err-begin_all : goal.returns-in_err-begin_all
returns-in_err-begin_all c =
    let p = err_from_is_err_and c.from_residual.result c.from_residual.ensures.1 in
    let e = c.in_err-begin_all.field-0.0 in let code = c.args.code.now in
    match_err c.from_residual.result p.0 e _ _ p.1 p.2
    (fails_as (λ a. list_all (begins_bare a code) (entries code) ≡ true) (IsAssignment code) c.args.known.now e (λ a below h. h.0) c.in_err-begin_all.ensures)

pub returns : goal.returns
returns c = settles_from c.settle.result c.args.code.now c.args.known.now c.begin_all.new.known c.settle.new.known c.in_ok-begin_all.ensures c.settle.ensures
