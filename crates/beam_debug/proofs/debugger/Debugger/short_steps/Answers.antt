use Rattle.beam_machine.specs.Prelude.{Debugged}
use Rattle.beam_debug.specs.Prelude.{capacity_of, debugged}
use Rattle.beam_debug.proofs.Capacities.{short_capacity}
use Rattle.beam_debug.proofs.Settling.{short_settled}
use Rattle.beam_debug.proofs.debugger.Debugger.short_steps.Goals as goal

pub invariant_of-self : goal.invariant_of-self
invariant_of-self c =
    let d : Debugged = debugged c.self.inside.core c.self.inside.debug in
    let x : Debugged = debugged c.short_steps.new.core c.short_steps.new.debug in (
      short_settled d x c.args.pid c.short_steps.result c.short_steps.ensures.next c.self.invariant.0,
      short_capacity d x (capacity_of c.self.inside.debug) (capacity_of c.short_steps.new.debug) c.args.pid c.short_steps.result c.short_steps.ensures.next
          c.short_steps.ensures.capacity c.short_steps.ensures.begun c.self.invariant.1,
    )
