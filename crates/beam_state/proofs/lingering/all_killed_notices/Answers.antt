use Rattle.std.proofs.Common.{◌≡◌, List, slice_get, sym, ap, ◌∙◌, Some}
use Rattle.std.proofs.lemmas.Option.{slice_get-get_or}
use Rattle.beam_machine.specs.Prelude.{Process}
use Rattle.beam_state.specs.Ends.{lingers_in}
use Rattle.beam_state.proofs.Ending.{lingering_lives, nobody}
use Rattle.beam_state.proofs.lingering.all_killed_notices.Goals as goal

pub returns-then-is_none-clause-some : goal.returns-then-is_none-clause-some
returns-then-is_none-clause-some c = nobody (lingers_in c.args.old) c.args.processes.now (c.is_none.ensures c.if-is_none.true)

pub killed_notices-requires-clause-lives : goal.killed_notices-requires-clause-lives
killed_notices-requires-clause-lives c =
    let entries : List Process = c.as_slice-entries.result.now in
    let i = c.loop-index.index in
    let p : Process = c.index-entries-index.result in
    let there : slice_get entries i ≡ Some p = slice_get-get_or entries i p c.loop-index-test.true ∙ ap Some (sym c.index-entries-index.is) in
    lingering_lives c.args.old c.args.processes.now i p c.requires.0 (rw c.as_slice-entries.ensures at there) (sym c.lingers.ensures ∙ c.if-lingers.true)
