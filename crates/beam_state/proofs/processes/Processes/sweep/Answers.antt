use Rattle.std.proofs.Common.{◌<◌, arith}
use Rattle.beam_state.proofs.MonitorKeys.{swept_if}
use Rattle.beam_state.proofs.processes.Processes.sweep.Goals as goal

pub invariant_of-self : goal.invariant_of-self
invariant_of-self c =
    let few : c.args.references < 4294967296 = omega arith in (
      c.self.invariant.0,
      swept_if c.self.inside.complete c.self.inside.monitor_index c.sweep.new.self c.self.inside.items.items c.args.self.now c.args.references c.self.view_is c.requires few (rw c.deref.ensures.value at c.sweep.ensures) c.self.invariant.1,
    )
