use Rattle.std.proofs.lemmas.Result.{err_from_is_err_and}
use Rattle.beam_remote.proofs.Preparing.{goes_on, first_isnt}
use Rattle.beam_remote.proofs.answer.prepare_all.Goals as goal

pub loop-file-preserved : goal.loop-file-preserved
loop-file-preserved c =
    rw c.in-Ok.ensures.items (goes_on c.args.files.now c.loop-file.file-index _ c.file-item.result c.loop-file.images.items c.in_ok-image.image
    c.loop-file-test.true c.file-item.is c.loop-file.invariant c.in_ok-image.ensures.ok)

pub returns-in_err-image-clause-err : goal.returns-in_err-image-clause-err
returns-in_err-image-clause-err c =
    let p = err_from_is_err_and c.from_residual.result c.from_residual.ensures.1 in
    rw (p.1, p.2) (first_isnt c.in_err-image.field-0.0 c.args.files.now c.loop-file.file-index _ c.file-item.result c.loop-file.images.items
    c.loop-file-test.true c.file-item.is c.loop-file.invariant c.in_err-image.ensures.err)
