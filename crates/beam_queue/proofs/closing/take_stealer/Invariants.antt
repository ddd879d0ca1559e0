use Rattle.std.proofs.Common.{◌≡◌, take}
use Rattle.beam_queue.specs.Prelude.{stealer_count, total}
use Rattle.beam_queue.proofs.closing.take_stealer.Given as goal

-- no run queue so far has a stealer
abbrev pub invariant-loop-at : goal.invariant-loop-at
invariant-loop-at g l = (l.run_queues.items ≡ l.fn.run_queues.items) × (total stealer_count (take l.at l.run_queues.items) ≡ 0)
