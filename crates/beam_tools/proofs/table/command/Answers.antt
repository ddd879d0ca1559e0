use Rattle.clap.specs.Words.{app_of}
use Rattle.beam_tools.specs.Prelude.{app_by}
use Rattle.beam_tools.proofs.Rows.{subcommand_more}
use Rattle.beam_tools.proofs.table.command.Goals as goal

pub loop-row-preserved : goal.loop-row-preserved
loop-row-preserved c = record {
  app = subcommand_more (app_of c.loop-row.command) (app_of c.in_ok-command-2.command) (app_by c.args.table.now) c.args.table.now.subcommands.now
      c.loop-row.row-index _ c.loop-row-test.true c.in_ok-command-2.ensures c.loop-row.invariant.app;
}
