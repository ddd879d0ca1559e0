use Rattle.std.proofs.Common.{arith}
use Rattle.beam_code.specs.Prelude.{tables_of, chunk_with}
use Rattle.beam_code.proofs.Lent.{atom_within, atom_lent}
use Rattle.beam_code.proofs.bytes.CodeBytes.atom.Goals as goal

pub index-requires : goal.index-requires
index-requires c =
    let i = c.self.inside in
    omega (arith, atom_within (chunk_with (tables_of i.atoms.items i.imports.items i.literals.items) i.code.items i.places) c.args.self.now c.self.view_is i.atom_terms.items c.self.invariant.2 c.args.number c.if-number-eq0.false c.requires)

pub returns-clause-is : goal.returns-clause-is
returns-clause-is c =
    let i = c.self.inside in
    atom_lent (chunk_with (tables_of i.atoms.items i.imports.items i.literals.items) i.code.items i.places) c.args.self.now c.self.view_is i.atom_terms.items c.self.invariant.2 c.args.number c.if-number-eq0.false c.index.result.now c.index.ensures c.requires
