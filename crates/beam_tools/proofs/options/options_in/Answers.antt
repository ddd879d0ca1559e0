use Rattle.std.proofs.Common.{codes, ap, ◌≡◌, ◌∙◌, List, Some, option_and_then}
use Rattle.std.proofs.lemmas.Result.{IfErr-weaker, IfOk-weaker}
use Rattle.clap.specs.Words.{Row, found_of, rows_of, subcommand_rows_of}
use Rattle.beam_tools.specs.Prelude.{IsNoLine, OptionsStop, ReplayStops, ServeStops, call_in, line_in}
use Rattle.beam_tools.proofs.Entered.{entered_as}
use Rattle.beam_tools.proofs.Stops.{call_stops, replay_stops, serve_stops}
use Rattle.beam_tools.proofs.options.options_in.Goals as goal

pub returns-in-Some-call-default-clause-told : goal.returns-in-Some-call-default-clause-told
returns-in-Some-call-default-clause-told c =
    let here = c.in-Some-call-default in
    let rows : List Row = rows_of (found_of here.inner.now) in
    let is : subcommand_rows_of c.args.matches.now ≡ Some (codes "call", rows) =
    entered_as c.args.matches.now here.field-0-0.now (codes "call") rows here.is-call here.ensures.name here.ensures.rows in
    IfOk-weaker c.call_in.result _ _ (λ o h. ap (option_and_then line_in) is ∙ h) c.call_in.ensures.told

pub returns-in-Some-call-default-clause-stop : goal.returns-in-Some-call-default-clause-stop
returns-in-Some-call-default-clause-stop c =
    let here = c.in-Some-call-default in
    let rows : List Row = rows_of (found_of here.inner.now) in
    let is : subcommand_rows_of c.args.matches.now ≡ Some (codes "call", rows) =
    entered_as c.args.matches.now here.field-0-0.now (codes "call") rows here.is-call here.ensures.name here.ensures.rows in
    IfErr-weaker c.call_in.result (IsNoLine (call_in rows)) (OptionsStop (subcommand_rows_of c.args.matches.now))
    (λ s h. call_stops _ rows s is h) c.call_in.ensures.stop

pub returns-in-Some-serve-default-clause-told : goal.returns-in-Some-serve-default-clause-told
returns-in-Some-serve-default-clause-told c =
    let here = c.in-Some-serve-default in
    let rows : List Row = rows_of (found_of here.inner.now) in
    let is : subcommand_rows_of c.args.matches.now ≡ Some (codes "serve", rows) =
    entered_as c.args.matches.now here.field-0-0.now (codes "serve") rows here.is-serve here.ensures.name here.ensures.rows in
    IfOk-weaker c.serve_in.result _ _ (λ o h. ap (option_and_then line_in) is ∙ h) c.serve_in.ensures.told

pub returns-in-Some-serve-default-clause-stop : goal.returns-in-Some-serve-default-clause-stop
returns-in-Some-serve-default-clause-stop c =
    let here = c.in-Some-serve-default in
    let rows : List Row = rows_of (found_of here.inner.now) in
    let is : subcommand_rows_of c.args.matches.now ≡ Some (codes "serve", rows) =
    entered_as c.args.matches.now here.field-0-0.now (codes "serve") rows here.is-serve here.ensures.name here.ensures.rows in
    IfErr-weaker c.serve_in.result (ServeStops rows) (OptionsStop (subcommand_rows_of c.args.matches.now))
    (λ s h. serve_stops _ rows s is h) c.serve_in.ensures.stop

pub returns-in-Some-replay-default-clause-told : goal.returns-in-Some-replay-default-clause-told
returns-in-Some-replay-default-clause-told c =
    let here = c.in-Some-replay-default in
    let rows : List Row = rows_of (found_of here.inner.now) in
    let is : subcommand_rows_of c.args.matches.now ≡ Some (codes "replay", rows) =
    entered_as c.args.matches.now here.field-0-0.now (codes "replay") rows here.is-replay here.ensures.name here.ensures.rows in
    IfOk-weaker c.replay_in.result _ _ (λ o h. ap (option_and_then line_in) is ∙ h) c.replay_in.ensures.told

pub returns-in-Some-replay-default-clause-stop : goal.returns-in-Some-replay-default-clause-stop
returns-in-Some-replay-default-clause-stop c =
    let here = c.in-Some-replay-default in
    let rows : List Row = rows_of (found_of here.inner.now) in
    let is : subcommand_rows_of c.args.matches.now ≡ Some (codes "replay", rows) =
    entered_as c.args.matches.now here.field-0-0.now (codes "replay") rows here.is-replay here.ensures.name here.ensures.rows in
    IfErr-weaker c.replay_in.result (ReplayStops rows) (OptionsStop (subcommand_rows_of c.args.matches.now))
    (λ s h. replay_stops _ rows s is h) c.replay_in.ensures.stop
