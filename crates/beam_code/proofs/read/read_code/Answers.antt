use Rattle.std.proofs.Common.{Ok, Err}
use Rattle.std.proofs.lemmas.Result.{err_from_is_err_and}
use Rattle.beam_code.specs.declared.read.CodeChunk.{CodeChunk}
use Rattle.beam_code.specs.Prelude.{parts_of, tables_of}
use Rattle.beam_code.proofs.ReadResults.{spelled, only}
use Rattle.beam_code.proofs.read.read_code.Goals as goal

pub returns-in_err-chunk-clause-only : goal.returns-in_err-chunk-clause-only
returns-in_err-chunk-clause-only c =
    let p = err_from_is_err_and c.from_residual.result c.from_residual.ensures.1 in
    rw (p.1, p.2) (only {X = CodeChunk} parts_of (Err c.in_err-chunk.field-0.0) (tables_of c.args.atoms.now c.args.imports.now c.args.literals.now) c.args.code.now c.in_err-chunk.ensures.exact)

pub returns-clause-spelled : goal.returns-clause-spelled
returns-clause-spelled c = spelled parts_of (Ok c.in_ok-chunk.chunk) (tables_of c.args.atoms.now c.args.imports.now c.args.literals.now) c.args.code.now c.in_ok-chunk.ensures.exact

pub returns-clause-only : goal.returns-clause-only
returns-clause-only c = only parts_of (Ok c.in_ok-chunk.chunk) (tables_of c.args.atoms.now c.args.imports.now c.args.literals.now) c.args.code.now c.in_ok-chunk.ensures.exact
