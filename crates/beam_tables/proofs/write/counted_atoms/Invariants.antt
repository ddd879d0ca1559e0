use Rattle.std.proofs.Common.{◌≡◌, drop}
use Rattle.beam_model.specs.Prelude.{atom_bytes, entries_bytes, table_bytes}
use Rattle.beam_tables.specs.Readings.{with_before}
use Rattle.beam_tables.proofs.write.counted_atoms.Given as goal

abbrev pub invariant-loop-atom : goal.invariant-loop-atom
invariant-loop-atom l = with_before l.out.items (entries_bytes atom_bytes (drop l.atom-index l.atoms)) ≡ table_bytes atom_bytes l.atoms
