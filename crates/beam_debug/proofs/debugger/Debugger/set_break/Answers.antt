use Rattle.std.proofs.Common.{◌≤◌, arith}
use Rattle.beam_model.specs.Prelude.{Listing}
use Rattle.beam_machine.specs.declared.debug.DebugEvent.TheVariants.{SetBreak}
use Rattle.beam_machine.specs.declared.debug.DebugEvent.{DebugEvent}
use Rattle.beam_machine.specs.Prelude.{Debugged}
use Rattle.beam_debug.specs.Prelude.{change_answer, capacity_of, debugged}
use Rattle.beam_debug.proofs.Capacities.{still_capacity}
use Rattle.beam_debug.proofs.Settling.{answers_settled}
use Rattle.beam_debug.proofs.debugger.Debugger.set_break.Goals as goal

pub invariant_of-self : goal.invariant_of-self
invariant_of-self c =
    let d : Debugged = debugged c.self.inside.core c.self.inside.debug in
    let x : Debugged = debugged c.self.inside.core c.set_break.new.debug in
    let event : DebugEvent Listing = SetBreak c.args.spot.now in
    let answer = change_answer c.set_break.result in
    let less : capacity_of c.self.inside.debug ≤ capacity_of c.set_break.new.debug = omega (arith, c.set_break.ensures.capacity) in (
      answers_settled d x event answer c.set_break.ensures.next c.self.invariant.0,
      still_capacity d x (capacity_of c.self.inside.debug) (capacity_of c.set_break.new.debug) event answer c.set_break.ensures.next less tt c.self.invariant.1,
    )
