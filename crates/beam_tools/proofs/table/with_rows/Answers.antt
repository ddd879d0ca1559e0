use Rattle.std.proofs.Common.{ap, ap₂, Bool, ◌∙◌, ◌||◌}
use Rattle.clap.specs.Words.{App, app_of, with_rule}
use Rattle.beam_tools.specs.Prelude.{with_rows}
use Rattle.beam_tools.proofs.Rows.{row_more}
use Rattle.beam_tools.proofs.table.with_rows.Goals as goal

pub loop-row-preserved : goal.loop-row-preserved
loop-row-preserved c =
    let before : App = app_of c.loop-row.command in
    let either : Bool → Bool → Bool = λ a b. a || b in
    record {
      app = row_more before (app_of c.in_ok-command.command) (with_rows (app_of c.args.command) c.args.rows.now) c.args.rows.now c.loop-row.row-index _
          c.loop-row-test.true (c.in_ok-command.ensures.shape c.argument.ensures.local ∙ ap (with_rule before) c.argument.ensures.rule) c.loop-row.invariant.app;
      local = λ none. c.in_ok-command.ensures.globals ∙ ap₂ either (c.loop-row.invariant.local none) c.argument.ensures.local;
    }
