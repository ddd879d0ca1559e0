use Rattle.beam_machine.specs.declared.debug.DebugEvent.TheVariants.{StepOne}
use Rattle.beam_machine.specs.Prelude.{Debugged}
use Rattle.beam_debug.specs.Prelude.{answer_of, capacity_of, debugged}
use Rattle.beam_debug.proofs.Capacities.{still_capacity}
use Rattle.beam_debug.proofs.Settling.{answers_settled}
use Rattle.beam_debug.proofs.debugger.Debugger.step_one.Goals as goal

pub invariant_of-self : goal.invariant_of-self
invariant_of-self c =
    let d : Debugged = debugged c.self.inside.core c.self.inside.debug in
    let x : Debugged = debugged c.step_one.new.core c.step_one.new.debug in
    let answer = answer_of c.step_one.result in (
      answers_settled d x (StepOne c.args.pid) answer c.step_one.ensures.next c.self.invariant.0,
      still_capacity d x (capacity_of c.self.inside.debug) (capacity_of c.step_one.new.debug) (StepOne c.args.pid) answer c.step_one.ensures.next c.step_one.ensures.capacity tt c.self.invariant.1,
    )
