use Rattle.std.proofs.lemmas.Result.{err_from_is_err_and}
use Rattle.beam_disasm.proofs.file.disassemble.Goals as goal

pub returns-in_err-listing-clause-only : goal.returns-in_err-listing-clause-only
returns-in_err-listing-clause-only c =
    let p = err_from_is_err_and c.from_residual.result c.from_residual.ensures.1 in
    rw (p.1, p.2) (λ l is. c.in_err-listing.ensures.only l is)
