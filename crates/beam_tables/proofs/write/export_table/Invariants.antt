use Rattle.std.proofs.Common.{◌≡◌, drop}
use Rattle.beam_model.specs.Prelude.{export_bytes, entries_bytes, table_bytes}
use Rattle.beam_tables.specs.Readings.{with_before}
use Rattle.beam_tables.proofs.write.export_table.Given as goal

abbrev pub invariant-loop-export : goal.invariant-loop-export
invariant-loop-export l = with_before l.out.items (entries_bytes (export_bytes l.atoms.keys) (drop l.export-index l.exports)) ≡ table_bytes (export_bytes l.atoms.keys) l.exports
