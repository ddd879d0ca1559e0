use Rattle.beam_machine.specs.declared.debug.DebugEvent.TheVariants.{Node}
use Rattle.beam_machine.specs.declared.event.Event.TheVariants.{Steps}
use Rattle.beam_machine.specs.Prelude.{Debugged}
use Rattle.beam_laws.specs.Prelude.{rows_of_event}
use Rattle.beam_debug.specs.Prelude.{capacity_of, debugged}
use Rattle.beam_debug.proofs.Capacities.{installed_capacity}
use Rattle.beam_debug.proofs.Settling.{installed_settled}
use Rattle.beam_debug.proofs.debugger.Debugger.install.Goals as goal

pub invariant_of-self : goal.invariant_of-self
invariant_of-self c =
    let d : Debugged = debugged c.self.inside.core c.self.inside.debug in
    let x : Debugged = debugged c.install.new.core c.install.new.debug in
    let rows = rows_of_event c.args.rows in (
      installed_settled d x (Node (Steps c.args.pid rows)) c.install.result c.install.ensures.next c.install.ensures.err c.self.invariant.0,
      installed_capacity d x (capacity_of c.self.inside.debug) (capacity_of c.install.new.debug) c.args.pid rows
          c.install.result c.install.ensures.next c.install.ensures.err c.install.ensures.capacity c.install.ensures.begun c.self.invariant.1,
    )
