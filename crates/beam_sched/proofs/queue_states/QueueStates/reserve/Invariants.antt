use Rattle.std.proofs.Common.{◌≡◌, ◌-◌, ℕ, length, ◌+◌}
use Rattle.beam_sched.specs.QueueStates.{queue_state_of}
use Rattle.beam_sched.proofs.queue_states.QueueStates.reserve.Given as goal

-- each process has the queue state that it had before
abbrev pub invariant-loop-self : goal.invariant-loop-self
invariant-loop-self l = (other : ℕ) → queue_state_of l.self-inside.states.items other ≡ queue_state_of l.fn.self other

abbrev pub decreases-loop-self : goal.decreases-loop-self
decreases-loop-self l = l.pid + 1 - length l.self-inside.states.items
