use Rattle.std.proofs.Common.{drop, false, ◌≡◌}
use Rattle.clap.specs.Words.{app_of}
use Rattle.clap.specs.declared.builder.command.Command.TheViews.{out-Command as fields_of}
use Rattle.beam_tools.specs.Prelude.{with_rows}
use Rattle.beam_tools.proofs.table.with_rows.Given as goal

abbrev pub invariant-loop-row : goal.invariant-loop-row
invariant-loop-row l = record {
  app : with_rows (app_of l.command) (drop l.row-index l.rows) ≡ with_rows (app_of l.fn.command) l.fn.rows;
  local : (fields_of l.fn.command).has_globals ≡ false → (fields_of l.command).has_globals ≡ false;
}
