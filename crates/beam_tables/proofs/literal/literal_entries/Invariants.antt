use Rattle.std.proofs.Common.{◌≡◌, ◌-◌}
use Rattle.beam_model.specs.Prelude.{entries_at, literal_at}
use Rattle.beam_tables.proofs.Loop.{with_front}
use Rattle.beam_tables.proofs.literal.literal_entries.Given as goal

abbrev pub invariant-loop : goal.invariant-loop
invariant-loop l = with_front l.literals.items (entries_at literal_at (l.count - l.counter) l.rest) ≡ entries_at literal_at l.count l.fn.bytes
