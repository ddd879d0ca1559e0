use Rattle.std.proofs.Common.{◌≡◌, length}
use Rattle.beam_queue.proofs.making.UnbrandedQueues.new.Given as goal

abbrev pub invariant-loop : goal.invariant-loop
invariant-loop l = length l.queues.items ≡ l.counter
