use Rattle.std.proofs.Common.{◌≡◌, ◌-◌}
use Rattle.beam_model.specs.Prelude.{entries_at, import_at}
use Rattle.beam_tables.proofs.Loop.{with_front}
use Rattle.beam_tables.proofs.entries.import_entries.Given as goal

abbrev pub invariant-loop : goal.invariant-loop
invariant-loop l = with_front l.imports.items (entries_at (import_at l.atoms) (l.count - l.counter) l.rest) ≡ entries_at (import_at l.atoms) l.count l.fn.bytes
