use Rattle.std.proofs.Common.{drop, ◌≡◌}
use Rattle.clap.specs.Words.{app_of}
use Rattle.beam_tools.specs.Prelude.{app_by, with_subcommands}
use Rattle.beam_tools.proofs.table.command.Given as goal

abbrev pub invariant-loop-row : goal.invariant-loop-row
invariant-loop-row l = record { app : with_subcommands (app_of l.command) (drop l.row-index l.fn.table.subcommands.now) ≡ app_by l.fn.table }
