use Rattle.std.proofs.Common.{◌≡◌, get_or, sym, ap, ◌∙◌, Some}
use Rattle.std.proofs.lemmas.Option.{slice_get-get_or}
use Rattle.beam_machine.specs.Prelude.{Process}
use Rattle.beam_state.specs.Ends.{lingers_in}
use Rattle.beam_state.proofs.Ending.{spared_there}
use Rattle.beam_state.proofs.lingering.end_lingering.Goals as goal

pub returns-else-lingers : goal.returns-else-lingers
returns-else-lingers c =
    let ps = c.args.processes.now in
    let p : Process = c.index-as_slice-index.result in
    let is : p ≡ get_or ps c.args.index p = rw c.as_slice.ensures at c.index-as_slice-index.is in
    spared_there (lingers_in c.args.old) ps c.args.index p (slice_get-get_or ps c.args.index p c.requires.within ∙ ap Some (sym is)) (sym c.lingers.ensures ∙ c.if-lingers.false)
