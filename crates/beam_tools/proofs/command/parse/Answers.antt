use Rattle.std.proofs.Common.{ap, subst, sym, ◌≡◌, ◌∙◌, ◌⊎◌}
use Rattle.clap.specs.Walk.{texts}
use Rattle.clap.specs.Words.{App, HasMatchesOf, IsAmong, app_of, fault_of, is_simple_and_free}
use Rattle.clap.specs.declared.error.kind.ErrorKind.TheVariants.{OutOfMemory}
use Rattle.beam_tools.specs.Prelude.{app_by}
use Rattle.beam_tools.proofs.Stops.{stop_said}
use Rattle.beam_tools.proofs.command.parse.Goals as goal

pub returns-in-Ok-try_get_matches_from-clause-matches : goal.returns-in-Ok-try_get_matches_from-clause-matches
returns-in-Ok-try_get_matches_from-clause-matches c =
    let taken = c.in-Ok-try_get_matches_from in
    subst (λ (a : App). HasMatchesOf a (texts c.args.words.now) taken.matches) c.in-Ok.ensures taken.ensures.matches

pub returns-in-Ok-try_get_matches_from-clause-taken : goal.returns-in-Ok-try_get_matches_from-clause-taken
returns-in-Ok-try_get_matches_from-clause-taken c simple =
    let same : app_of c.in-Ok.command ≡ app_by c.args.table.now = c.in-Ok.ensures in
    ap (λ (a : App). fault_of a (texts c.args.words.now)) (sym same) ∙ c.in-Ok-try_get_matches_from.ensures.kinds (ap is_simple_and_free same ∙ simple)

pub returns-in-Err-clause-stop : goal.returns-in-Err-clause-stop
returns-in-Err-clause-stop c simple =
    let words = texts c.args.words.now in
    let same : app_of c.in-Ok.command ≡ app_by c.args.table.now = c.in-Ok.ensures in
    stop_said (app_by c.args.table.now) words c.in-Err.error.kind c.stop.result
    (subst (λ (a : App). (c.in-Err.error.kind ≡ OutOfMemory) ⊎ IsAmong c.in-Err.error.kind (fault_of a words)) same
    (c.in-Err.ensures.kinds (ap is_simple_and_free same ∙ simple))) c.stop.ensures
