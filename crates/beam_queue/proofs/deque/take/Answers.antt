use Rattle.beam_queue.proofs.Moves.{takes}
use Rattle.beam_queue.proofs.deque.take.Goals as goal

pub pop_as-requires-clause-fifo : goal.pop_as-requires-clause-fifo
pop_as-requires-clause-fifo c = λ _. takes _ _ c.requires.0
