use Rattle.std.proofs.Common.{◌≡◌, ◌++◌, length, map}
use Rattle.std.specs.List.{range_with_len}
use Rattle.beam_queue.specs.Prelude.{new_run_queue}
use Rattle.beam_queue.proofs.making.without_stealers.Given as goal

-- a run queue for each queue so far
abbrev pub invariant-loop-fresh : goal.invariant-loop-fresh
invariant-loop-fresh g l =
    (l.yielded ++ l.fresh-iterator.rest.items ≡ l.fn.queues.items) × (l.run_queues.items ≡ map new_run_queue (range_with_len 0 (length l.yielded)))
