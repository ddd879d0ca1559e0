-- Queue states of processes. (This node's own.)
use Rattle.std.specs.Prelude.{ℕ, List, get_or}
use Rattle.beam_sched.specs.declared.queue_states.QueueState.{QueueState}
use Rattle.beam_sched.specs.declared.queue_states.QueueState.TheVariants.{Free}

-- the queue state of a process; one that has none is free
abbrev pub queue_state_of : List QueueState → ℕ → QueueState
queue_state_of states pid = get_or states pid Free
