use Rattle.std.proofs.Common.{◌≡◌, ◌+◌, ℕ, length}
use Rattle.beam_queue.specs.Prelude.{HaveNoStealers, total, times, enqueued_by, taken_by}
use Rattle.beam_queue.proofs.closing.drain_all.Given as goal

-- the pids that were left in the queues so far are in the list
abbrev pub invariant-loop-run_queue : goal.invariant-loop-run_queue
invariant-loop-run_queue g l =
    HaveNoStealers l.run_queues.items
    × ((pid : ℕ) → total (taken_by pid) l.fn.run_queues.items + times pid l.left.items + total (enqueued_by pid) l.run_queues.items
    ≡ total (enqueued_by pid) l.fn.run_queues.items + total (taken_by pid) l.run_queues.items)

abbrev pub decreases-loop-run_queue : goal.decreases-loop-run_queue
decreases-loop-run_queue g l = length l.run_queues.items
