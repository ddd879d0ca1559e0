use Rattle.std.proofs.Common.{◌≤◌, arith}
use Rattle.beam_model.specs.Prelude.{Listing}
use Rattle.beam_machine.specs.declared.debug.DebugEvent.TheVariants.{Resume}
use Rattle.beam_machine.specs.declared.debug.DebugEvent.{DebugEvent}
use Rattle.beam_machine.specs.Prelude.{Debugged}
use Rattle.beam_debug.specs.Prelude.{release_answer, capacity_of, debugged}
use Rattle.beam_debug.proofs.Capacities.{still_capacity}
use Rattle.beam_debug.proofs.Settling.{answers_settled}
use Rattle.beam_debug.proofs.debugger.Debugger.resume.Goals as goal

pub invariant_of-self : goal.invariant_of-self
invariant_of-self c =
    let d : Debugged = debugged c.self.inside.core c.self.inside.debug in
    let x : Debugged = debugged c.self.inside.core c.resume.new.debug in
    let event : DebugEvent Listing = Resume c.args.pid in
    let answer = release_answer c.resume.result in
    let less : capacity_of c.self.inside.debug ≤ capacity_of c.resume.new.debug = omega (arith, c.resume.ensures.capacity) in (
      answers_settled d x event answer c.resume.ensures.next c.self.invariant.0,
      still_capacity d x (capacity_of c.self.inside.debug) (capacity_of c.resume.new.debug) event answer c.resume.ensures.next less tt c.self.invariant.1,
    )
