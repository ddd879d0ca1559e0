-- What is taken by a run queue. (This node's own.)
use Rattle.std.specs.Prelude.{◌≡◌, ◌⊎◌, ℕ}
use Rattle.beam_queue.specs.Prelude.{RunQueue, Steals, takes}

-- a process is taken from the run queue's own queue, or stolen from another one
abbrev pub Dequeues : ℕ → RunQueue → RunQueue → Type 0
Dequeues pid old new = (new ≡ record old { queue = takes pid old.queue }) ⊎ Steals pid old new
