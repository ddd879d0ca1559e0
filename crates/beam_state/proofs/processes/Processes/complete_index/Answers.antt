use Rattle.beam_state.proofs.MonitorKeys.{tells_all}
use Rattle.beam_state.proofs.processes.Processes.complete_index.Goals as goal

pub returns-then-self : goal.returns-then-self
returns-then-self c = tells_all c.self.inside.complete c.self.inside.monitor_index c.self.inside.items.items c.args.self.now c.if-self.true c.self.invariant.1 c.len-ordered.ensures c.self.view_is
