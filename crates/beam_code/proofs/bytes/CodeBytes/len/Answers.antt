use Rattle.std.proofs.Common.{length, ap, arith}
use Rattle.beam_code.specs.Prelude.{CodeBytes, instructions_in, tables_of, chunk_with}
use Rattle.beam_code.proofs.InstructionsAtStarts.{how_many}
use Rattle.beam_code.proofs.bytes.CodeBytes.len.Goals as goal

pub returns : goal.returns
returns c =
    let i = c.self.inside in
    let as_many = how_many (chunk_with (tables_of i.atoms.items i.imports.items i.literals.items) i.code.items i.places) in
    omega (arith, c.len.ensures, as_many, ap (λ (b : CodeBytes). length (instructions_in b)) c.self.view_is)
