use Rattle.beam_core.proofs.node.apply.Goals as goal

pub returns-in-Clock-clause-memory : goal.returns-in-Clock-clause-memory
returns-in-Clock-clause-memory c = rw c.in-Clock.is (c.tick.ensures.memory c.args.code.now)

pub returns-in-Timeout-clause-memory : goal.returns-in-Timeout-clause-memory
returns-in-Timeout-clause-memory c = rw c.in-Timeout.is (c.time_out.ensures.memory c.args.code.now)
