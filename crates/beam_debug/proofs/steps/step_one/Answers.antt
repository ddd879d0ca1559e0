use Rattle.std.proofs.Common.{◌≡◌, true, rules, Some}
use Rattle.beam_machine.specs.declared.event.Then.TheVariants.{GoesOn}
use Rattle.beam_machine.specs.Prelude.{Debugged, is_among}
use Rattle.beam_debug.specs.Prelude.{then_at, debugged}
use Rattle.beam_debug.proofs.Accepted.{step_may}
use Rattle.beam_debug.proofs.steps.step_one.Goals as goal

pub returns-in_err-then-clause-memory : goal.returns-in_err-then-clause-memory
returns-in_err-then-clause-memory c =
    let d : Debugged = debugged c.args.core.now c.args.debug.now in
    let runs : then_at d.node c.args.pid ≡ Some GoesOn = search rules in
    let held : is_among c.args.pid d.held ≡ true = search rules in
    step_may d c.args.pid _ runs held
