use Rattle.std.proofs.Common.{◌≡◌, drop, take}
use Rattle.std.specs.List.{All}
use Rattle.beam_model.specs.Prelude.{literal_bytes, entries_bytes, table_bytes}
use Rattle.beam_term.specs.Prelude.{IsTerm}
use Rattle.beam_tables.specs.Readings.{with_before}
use Rattle.beam_tables.proofs.write.counted_literals.Given as goal

abbrev pub invariant-loop-literal : goal.invariant-loop-literal
invariant-loop-literal l = record {
  gives : with_before l.out.items (entries_bytes literal_bytes (drop l.literal-index l.literals)) ≡ table_bytes literal_bytes l.literals;
  lawful : All IsTerm (take l.literal-index l.literals);
}
