use Rattle.std.proofs.Common.{◌≡◌, drop}
use Rattle.beam_model.specs.Prelude.{import_bytes, entries_bytes, table_bytes}
use Rattle.beam_tables.specs.Readings.{with_before}
use Rattle.beam_tables.proofs.write.import_table.Given as goal

abbrev pub invariant-loop-import : goal.invariant-loop-import
invariant-loop-import l = with_before l.out.items (entries_bytes (import_bytes l.atoms.keys) (drop l.import-index l.imports)) ≡ table_bytes (import_bytes l.atoms.keys) l.imports
