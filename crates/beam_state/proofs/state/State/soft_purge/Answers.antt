use Rattle.beam_state.proofs.state.State.soft_purge.Goals as goal

pub returns-clause-memory : goal.returns-clause-memory
returns-clause-memory c = λ e. absurd (c.soft_purge.ensures.memory e)
