use Rattle.std.proofs.lemmas.Result.{err_from_is_err_and}
use Rattle.beam_asm.proofs.FileAgain.{refused_file}
use Rattle.beam_asm.proofs.asm.small_file.Goals as goal

pub returns-in_err-bytes-clause-refused : goal.returns-in_err-bytes-clause-refused
returns-in_err-bytes-clause-refused c =
    let p = err_from_is_err_and c.from_residual.result c.from_residual.ensures.1 in
    rw (p.1, p.2) (refused_file c.in_err-bytes.field-0.0 c.args.listing.now c.args.numbering.now c.requires.numbers c.in_err-bytes.ensures c.requires.loadable c.requires.few c.requires.short)
