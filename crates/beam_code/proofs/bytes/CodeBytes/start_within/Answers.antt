use Rattle.std.proofs.Common.{length, ap, sym, ◌∙◌, arith}
use Rattle.std.proofs.lemmas.Option.{get_or_from_slice_get}
use Rattle.beam_code.specs.Prelude.{CodeBytes, instructions_in, start_of, tables_of, chunk_with}
use Rattle.beam_code.proofs.InstructionsAtStarts.{how_many}
use Rattle.beam_code.proofs.bytes.CodeBytes.start_within.Goals as goal

pub get-requires : goal.get-requires
get-requires c =
    let i = c.self.inside in
    let as_many = how_many (chunk_with (tables_of i.atoms.items i.imports.items i.literals.items) i.code.items i.places) in
    omega (arith, c.requires, as_many, ap (λ (b : CodeBytes). length (instructions_in b)) c.self.view_is)

pub returns-clause-value : goal.returns-clause-value
returns-clause-value c =
    let i = c.self.inside in
    sym (get_or_from_slice_get i.places.starts c.args.at c.get.result i.places.end c.get.ensures) ∙ ap (λ (b : CodeBytes). start_of b c.args.at) c.self.view_is
