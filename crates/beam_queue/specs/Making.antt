-- How run queues get their stealers. (This crate's own.)
use Rattle.std.specs.Prelude.{◌≡◌, ◌≢◌, ℕ, ◌+◌, ◌-◌, ◌<◌, ◌≤◌, ◌⊎◌, List, ◌++◌, length, map, get_or}
use Rattle.std.specs.List.{range_with_len}
use Rattle.beam_queue.specs.Closing.{lent, KeepsCounts}
use Rattle.beam_queue.specs.RunQueues.{RunQueue, victims, others}

-- the run queues from one index up to another have lent at most this many stealers
abbrev pub LentAtMost : ℕ → ℕ → ℕ → List RunQueue → Type 0
LentAtMost most from to run_queues = (i : ℕ) (d : RunQueue) → from ≤ i → i < to → lent (get_or run_queues i d) ≤ most

abbrev pub number_of : RunQueue → ℕ
number_of l = l.queue.number

-- the run queue at an index has more stealers, and no other run queue has
abbrev pub AddsStealersOf : ℕ → List ℕ → List RunQueue → List RunQueue → Type 0
AddsStealersOf at more old new =
    ((d : RunQueue) → victims (get_or new at d).stealers ≡ victims (get_or old at d).stealers ++ more)
    × ((i : ℕ) (d : RunQueue) → i ≢ at → victims (get_or new i d).stealers ≡ victims (get_or old i d).stealers)

-- the run queue at an index got a stealer of each queue from one number up to another
abbrev pub AddsStealersInRange : ℕ → ℕ → ℕ → List RunQueue → List RunQueue → Type 0
AddsStealersInRange at from to old new =
    (map number_of new ≡ map number_of old)
    × KeepsCounts old new
    × AddsStealersOf at (range_with_len from (to - from)) old new
    × ((i : ℕ) (d : RunQueue) → from ≤ i → i < to → lent (get_or new i d) ≤ lent (get_or old i d) + 1)
    × ((i : ℕ) (d : RunQueue) → (i < from) ⊎ (to ≤ i) → lent (get_or new i d) ≡ lent (get_or old i d))

-- the run queue at an index got a stealer of each other queue
abbrev pub AddsAllStealers : ℕ → List RunQueue → List RunQueue → Type 0
AddsAllStealers at old new =
    (map number_of new ≡ map number_of old)
    × KeepsCounts old new
    × AddsStealersOf at (others (length old) at) old new
    × ((i : ℕ) (d : RunQueue) → lent (get_or new i d) ≤ lent (get_or old i d) + 1)
