use Rattle.std.proofs.Common.{◌≡◌, ◌-◌}
use Rattle.beam_model.specs.Prelude.{entries_at, table_atom_at}
use Rattle.beam_tables.proofs.Loop.{with_front}
use Rattle.beam_tables.proofs.entries.atom_entries.Given as goal

abbrev pub invariant-loop : goal.invariant-loop
invariant-loop l = with_front l.atoms.items (entries_at table_atom_at (l.count - l.counter) l.rest) ≡ entries_at table_atom_at l.count l.fn.bytes
