-- The value of a run queue in contracts: a thread's own queue, and its stealers of the others. (This crate's own.)
use Rattle.std.specs.Prelude.{◌≡◌, ℕ, ◌+◌, ◌-◌, ◌==◌, if◌then◌else◌, List, [], ◌∷◌, ◌++◌, map}
use Rattle.std.specs.List.{range_with_len}
use Rattle.beam_queue.specs.Counting.{total, times}

-- a queue: its number, how many stealers of it are lent, and the pids that its owner enqueued, and that it and stealers that came back took
pub record OwnQueue : Type 0 where
  pub number : ℕ
  pub lent : ℕ
  pub enqueued : List ℕ
  pub taken : List ℕ

-- a stealer: the number of its queue, and the pids that it took
pub record Stealer : Type 0 where
  pub of : ℕ
  pub taken : List ℕ

pub record RunQueue : Type 0 where
  pub queue : OwnQueue
  pub stealers : List Stealer

abbrev pub new_own_queue : ℕ → OwnQueue
new_own_queue n = record { number = n; lent = 0; enqueued = []; taken = [] }

abbrev pub new_stealer : ℕ → Stealer
new_stealer n = record { of = n; taken = [] }

abbrev pub new_run_queue : ℕ → RunQueue
new_run_queue n = record { queue = new_own_queue n; stealers = [] }

abbrev pub enqueues : ℕ → OwnQueue → OwnQueue
enqueues pid q = record q { enqueued = q.enqueued ++ pid ∷ [] }

abbrev pub takes : ℕ → OwnQueue → OwnQueue
takes pid q = record q { taken = q.taken ++ pid ∷ [] }

abbrev pub lends : OwnQueue → OwnQueue
lends q = record q { lent = q.lent + 1 }

abbrev pub takes_back : Stealer → OwnQueue → OwnQueue
takes_back t q = record q { lent = q.lent - 1; taken = q.taken ++ t.taken }

abbrev pub stealer_takes : ℕ → Stealer → Stealer
stealer_takes pid t = record t { taken = t.taken ++ pid ∷ [] }

-- the numbers of these stealers' queues
abbrev pub victims : List Stealer → List ℕ
victims ts = map (λ t. t.of) ts

-- the numbers of `count` queues but one, from the next one on, round
abbrev pub others : ℕ → ℕ → List ℕ
others count own = range_with_len (own + 1) (count - (own + 1)) ++ range_with_len 0 own

-- how often stealers took a pid
abbrev pub stolen_by : ℕ → List Stealer → ℕ
stolen_by pid ts = total (λ t. times pid t.taken) ts

-- one of the stealers took a pid
abbrev pub OneStole : ℕ → List Stealer → List Stealer → Type 0
OneStole pid old new = (victims new ≡ victims old) × ((p : ℕ) → stolen_by p new ≡ stolen_by p old + times p (pid ∷ []))

-- how often a run queue enqueued a pid, and how often it took it, from its own queue and from others
abbrev pub enqueued_by : ℕ → RunQueue → ℕ
enqueued_by pid l = times pid l.queue.enqueued

abbrev pub taken_by : ℕ → RunQueue → ℕ
taken_by pid l = times pid l.queue.taken + stolen_by pid l.stealers

-- a stealer of the run queue took a pid, and nothing else changed
abbrev pub Steals : ℕ → RunQueue → RunQueue → Type 0
Steals pid old new = (new.queue ≡ old.queue) × OneStole pid old.stealers new.stealers

-- how many stealers a run queue has of the queue with a number, and how many that queue has lent, if it is the run queue's
abbrev pub stealers_of : ℕ → RunQueue → ℕ
stealers_of n l = times n (victims l.stealers)

abbrev pub lent_of : ℕ → RunQueue → ℕ
lent_of n l = if l.queue.number == n then l.queue.lent else 0

-- of each queue the run queues have as many stealers as it has lent
abbrev pub HaveAllStealers : List RunQueue → Type 0
HaveAllStealers run_queues = (n : ℕ) → total (stealers_of n) run_queues ≡ total (lent_of n) run_queues
