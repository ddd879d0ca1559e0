use Rattle.beam_queue.proofs.Moves.{merges}
use Rattle.beam_queue.proofs.deque.join_pass.Goals as goal

pub absorb-requires-clause-rule : goal.absorb-requires-clause-rule
absorb-requires-clause-rule c = merges _ _ _ _ c.requires.1
