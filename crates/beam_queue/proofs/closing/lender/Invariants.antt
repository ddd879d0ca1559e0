use Rattle.std.proofs.Common.{◌≡◌, take}
use Rattle.beam_queue.specs.Prelude.{total, lent_of}
use Rattle.beam_queue.proofs.closing.lender.Given as goal

abbrev pub invariant-loop-at : goal.invariant-loop-at
invariant-loop-at g l = total (lent_of l.fn.number) (take l.at l.fn.run_queues) ≡ 0
