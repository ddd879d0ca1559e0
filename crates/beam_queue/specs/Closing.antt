-- How stealers go back to their queues. (This crate's own.)
use Rattle.std.specs.Prelude.{◌≡◌, ℕ, ◌+◌, List, length}
use Rattle.beam_queue.specs.Counting.{total, times, one_if}
use Rattle.beam_queue.specs.RunQueues.{Stealer, RunQueue, enqueued_by, taken_by, stealers_of, lent_of}

-- how many stealers a run queue has, and how many its queue has lent
abbrev pub stealer_count : RunQueue → ℕ
stealer_count l = length l.stealers

abbrev pub lent : RunQueue → ℕ
lent l = l.queue.lent

-- no run queue has a stealer, and no queue has lent one
abbrev pub HaveNoStealers : List RunQueue → Type 0
HaveNoStealers run_queues = (total stealer_count run_queues ≡ 0) × (total lent run_queues ≡ 0)

-- a stealer is removed from a run queue
abbrev pub RemovesStealer : Stealer → List RunQueue → List RunQueue → Type 0
RemovesStealer t old new =
    (total stealer_count new + 1 ≡ total stealer_count old)
    × ((pid : ℕ) → total (enqueued_by pid) new ≡ total (enqueued_by pid) old)
    × ((pid : ℕ) → total (taken_by pid) new + times pid t.taken ≡ total (taken_by pid) old)
    × ((n : ℕ) → total (stealers_of n) new + one_if n t.of ≡ total (stealers_of n) old)
    × ((n : ℕ) → total (lent_of n) new ≡ total (lent_of n) old)

-- each pid was enqueued and taken as often as before, and the stealers of each queue grew in number by as many as it has lent more
abbrev pub KeepsCounts : List RunQueue → List RunQueue → Type 0
KeepsCounts old new =
    ((pid : ℕ) → total (enqueued_by pid) new ≡ total (enqueued_by pid) old)
    × ((pid : ℕ) → total (taken_by pid) new ≡ total (taken_by pid) old)
    × ((n : ℕ) → total (stealers_of n) new + total (lent_of n) old ≡ total (stealers_of n) old + total (lent_of n) new)
