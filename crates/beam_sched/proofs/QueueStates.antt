-- Room for one more queue state changes no queue state.
use Rattle.std.proofs.Common.{◌≡◌, ℕ, zero, suc, List, [], ◌∷◌, ◌++◌, refl}
use Rattle.beam_sched.specs.declared.queue_states.QueueState.{QueueState}
use Rattle.beam_sched.specs.declared.queue_states.QueueState.TheVariants.{Free}
use Rattle.beam_sched.specs.QueueStates.{queue_state_of}

-- one more free state at the end leaves each process its queue state
pub more_free : (ms : List QueueState) (pid : ℕ) → queue_state_of (ms ++ Free ∷ []) pid ≡ queue_state_of ms pid
more_free [] zero = refl
more_free [] (suc pid) = refl
more_free (m ∷ ms) zero = refl
more_free (m ∷ ms) (suc pid) = more_free ms pid
