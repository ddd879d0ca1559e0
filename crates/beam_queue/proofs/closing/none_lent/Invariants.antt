use Rattle.std.proofs.Common.{◌≡◌, take}
use Rattle.beam_queue.specs.Prelude.{lent, total}
use Rattle.beam_queue.proofs.closing.none_lent.Given as goal

abbrev pub invariant-loop-at : goal.invariant-loop-at
invariant-loop-at g l = total lent (take l.at l.fn.run_queues) ≡ 0
