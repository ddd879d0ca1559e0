use Rattle.std.proofs.Common.{ap, sym, ◌≡◌, ◌∙◌, refl, true, List, Option, option_and_then}
use Rattle.std.proofs.lemmas.Result.{IfErr-weaker, IfOk-weaker}
use Rattle.clap.specs.Walk.{texts}
use Rattle.clap.specs.Words.{Row, Text, is_simple, is_simple_and_free, subcommand_of, subcommand_rows_of}
use Rattle.beam_tools.specs.Prelude.{OptionsStop, StopSays, line_in, node_app}
use Rattle.beam_tools.proofs.Stops.{always, options_say}
use Rattle.beam_tools.proofs.options.options.Goals as goal

pub returns-in-Ok-clause-told : goal.returns-in-Ok-clause-told
returns-in-Ok-clause-told c =
    let entered : subcommand_rows_of c.in-Ok.matches ≡ subcommand_of node_app (texts c.args.words.now) = (c.in-Ok.ensures.matches refl).1 in
    IfOk-weaker c.options_in.result _ _ (λ o h. ap (option_and_then line_in) (sym entered) ∙ h) c.options_in.ensures.told

pub returns-in-Ok-clause-taken : goal.returns-in-Ok-clause-taken
returns-in-Ok-clause-taken c = always c.options_in.result _ (c.in-Ok.ensures.taken refl)

pub returns-in-Ok-clause-stop : goal.returns-in-Ok-clause-stop
returns-in-Ok-clause-stop c =
    let words = texts c.args.words.now in
    let entered : subcommand_rows_of c.in-Ok.matches ≡ subcommand_of node_app words = (c.in-Ok.ensures.matches refl).1 in
    IfErr-weaker c.options_in.result (OptionsStop (subcommand_rows_of c.in-Ok.matches)) (StopSays node_app words)
    (λ s h. options_say words (subcommand_rows_of c.in-Ok.matches) s entered h) c.options_in.ensures.stop
