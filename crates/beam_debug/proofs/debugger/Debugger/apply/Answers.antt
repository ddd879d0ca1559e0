use Rattle.beam_machine.specs.Prelude.{Debugged}
use Rattle.beam_debug.specs.Prelude.{answer_of, capacity_of, debugged}
use Rattle.beam_debug.proofs.Capacities.{answered_capacity}
use Rattle.beam_debug.proofs.Settling.{answers_settled}
use Rattle.beam_debug.proofs.debugger.Debugger.apply.Goals as goal

pub invariant_of-self : goal.invariant_of-self
invariant_of-self c =
    let d : Debugged = debugged c.self.inside.core c.self.inside.debug in
    let x : Debugged = debugged c.apply.new.core c.apply.new.debug in
    let event = c.args.event.now in (
      answers_settled d x event (answer_of c.apply.result) c.apply.ensures.next c.self.invariant.0,
      answered_capacity d x (capacity_of c.self.inside.debug) (capacity_of c.apply.new.debug) event c.apply.result c.apply.ensures.next c.apply.ensures.capacity c.apply.ensures.begun c.self.invariant.1,
    )
