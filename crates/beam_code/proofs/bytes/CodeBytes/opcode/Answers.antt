use Rattle.std.proofs.Common.{refl}
use Rattle.beam_code.specs.Prelude.{tables_of, chunk_with}
use Rattle.beam_code.proofs.InstructionsAtStarts.{opcode_byte}
use Rattle.beam_code.proofs.bytes.CodeBytes.opcode.Goals as goal

pub unwrap-requires : goal.unwrap-requires
unwrap-requires c =
    let i = c.self.inside in
    let byte = rw c.start.ensures.value at c.index.ensures in
    let known = opcode_byte (chunk_with (tables_of i.atoms.items i.imports.items i.literals.items) i.code.items i.places) c.args.self.now c.self.view_is c.self.invariant.0 c.args.at c.index.result.now byte in
    rw (c.by_number.ensures.value, known) refl

pub returns : goal.returns
returns c =
    let i = c.self.inside in
    let byte = rw c.start.ensures.value at c.index.ensures in
    let known = opcode_byte (chunk_with (tables_of i.atoms.items i.imports.items i.literals.items) i.code.items i.places) c.args.self.now c.self.view_is c.self.invariant.0 c.args.at c.index.result.now byte in
    cc (c.by_number.ensures.value, c.unwrap.ensures, known)
