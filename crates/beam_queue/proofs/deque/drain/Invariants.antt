use Rattle.std.proofs.Common.{◌≡◌, ℕ, ◌+◌}
use Rattle.crossbeam_deque.specs.Handles.{worker_view, worker_flavor}
use Rattle.beam_queue.specs.Prelude.{times}
use Rattle.beam_queue.proofs.deque.drain.Given as goal

-- the pids that were taken stand after those that were there
abbrev pub invariant-loop : goal.invariant-loop
invariant-loop l =
    ((worker_view l.deque).parts ≡ 1024) × (worker_flavor l.deque ≡ 0) × ((worker_view l.deque).put ≡ (worker_view l.fn.deque).put)
    × ((x : ℕ) → times x (worker_view l.deque).taken + times x l.fn.left.items ≡ times x (worker_view l.fn.deque).taken + times x l.left.items)
