use Rattle.beam_code.specs.Prelude.{tables_of, chunk_with}
use Rattle.beam_code.proofs.InstructionsAtStarts.{read_is}
use Rattle.beam_code.proofs.bytes.CodeBytes.instruction.Goals as goal

pub returns-in-Ok : goal.returns-in-Ok
returns-in-Ok c =
    let i = c.self.inside in
    let e = rw (c.deref.ensures.value, c.deref-2.ensures.value, c.deref-3.ensures.value, c.deref-4.ensures.value, c.start-start.ensures.value) at c.in-Ok.ensures in
    read_is (chunk_with (tables_of i.atoms.items i.imports.items i.literals.items) i.code.items i.places) c.args.self.now c.self.view_is c.self.invariant.0 c.args.at (c.in-Ok.instruction, c.in-Ok._next) e
