use Rattle.beam_state.proofs.state.State.tick.Goals as goal

pub returns-clause-memory : goal.returns-clause-memory
returns-clause-memory c = λ code e. absurd (c.tick.ensures.memory e)
