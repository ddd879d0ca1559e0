use Rattle.beam_queue.proofs.Moves.{puts}
use Rattle.beam_queue.proofs.deque.put.Goals as goal

pub push_as-requires-clause-pushes : goal.push_as-requires-clause-pushes
push_as-requires-clause-pushes c = puts _ _ _ c.requires
