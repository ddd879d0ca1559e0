use Rattle.std.proofs.Common.{refl, ◌≡◌, List}
use Rattle.std.proofs.lemmas.Result.{IfErr-weaker}
use Rattle.clap.specs.Walk.{texts}
use Rattle.clap.specs.Words.{Row, found_of, matches_of, rows_of}
use Rattle.beam_tools.specs.Prelude.{as_app, NamesStop, StopSays}
use Rattle.beam_tools.proofs.Stops.{names_say}
use Rattle.beam_tools.proofs.as_options.names.Goals as goal

pub returns-in-Ok-clause-stop : goal.returns-in-Ok-clause-stop
returns-in-Ok-clause-stop c =
    let words = texts c.args.words.now in
    let rows : List Row = rows_of (found_of c.in-Ok.matches) in
    let same : rows ≡ matches_of as_app words = (c.in-Ok.ensures.matches refl).0 in
    IfErr-weaker c.names_in.result (NamesStop rows) (StopSays as_app words) (λ s h. names_say as_app words rows s same h) c.names_in.ensures.stop
