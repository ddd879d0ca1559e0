use Rattle.beam_queue.proofs.Moves.{forks}
use Rattle.beam_queue.proofs.deque.split_pass.Goals as goal

pub another-requires : goal.another-requires
another-requires c = forks _ _ c.requires
