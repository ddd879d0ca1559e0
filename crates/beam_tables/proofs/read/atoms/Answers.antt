use Rattle.std.proofs.Common.{arith}
use Rattle.beam_model.specs.Prelude.{table_atom_at, length-entries}
use Rattle.beam_tables.proofs.read.atoms.Goals as goal

pub invariant_of-result : goal.invariant_of-result
invariant_of-result c = omega (arith, length-entries table_atom_at c.in_ok-count.count c.in_ok-count.rest.now c.in_ok-atom_entries.field-0.items c.in_ok-atom_entries.ensures)
