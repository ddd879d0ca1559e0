use Rattle.beam_state.specs.Ends.{lingers_in}
use Rattle.beam_state.proofs.Ending.{nobody}
use Rattle.beam_state.proofs.lingering.one_lingers.Goals as goal

pub returns-then-is_none : goal.returns-then-is_none
returns-then-is_none c = nobody (lingers_in c.args.old) c.args.processes.now (c.is_none.ensures c.if-is_none.true)
