use Rattle.std.proofs.Common.{length}
use Rattle.beam_queue.proofs.AllStealersAdded.{HaveStealersBelow}
use Rattle.beam_queue.proofs.making.UnbrandedQueues.branded.Given as goal

abbrev pub invariant-loop-at : goal.invariant-loop-at
invariant-loop-at g l = HaveStealersBelow (length l.fn.self) l.at l.run_queues.items
