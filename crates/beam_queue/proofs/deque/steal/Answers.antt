use Rattle.beam_queue.proofs.Moves.{takes}
use Rattle.beam_queue.proofs.deque.steal.Goals as goal

pub steal_as-requires-clause-takes : goal.steal_as-requires-clause-takes
steal_as-requires-clause-takes c = takes _ _ c.requires.1
