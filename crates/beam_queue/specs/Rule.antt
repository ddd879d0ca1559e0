-- The invariant of a queue and of all contributions to it. (This crate's own.)
use Rattle.std.specs.Prelude.{◌≡◌, ℕ, ◌+◌, List, [], ◌∷◌}
use Rattle.std.specs.declared.alloc.Global.{Global}
use mathlib.Core.Option.{some}
use lib.ListN.{get_elem?}
use Rattle.atomic_blocks.specs.Lent.{RowsId}
use Rattle.crossbeam_deque.specs.Handles.{Pass, view, worker_deque, worker_view, worker_flavor}
use Rattle.crossbeam_deque.specs.declared.handles.Worker.{Worker}
use Rattle.beam_queue.specs.declared.contribution.Contribution.{Contribution}
use Rattle.beam_queue.specs.Counting.{total}

-- which deque it is
abbrev pub DequeId : Type 0
DequeId = RowsId × Global

abbrev pub contribution : ℕ → List ℕ → List ℕ → Contribution
contribution parts put taken = record { parts = parts; put = put; taken = taken }

-- a contribution without a part has put and taken nothing
abbrev pub IdleIsEmpty : List Contribution → Type 0
IdleIsEmpty hands = (port : ℕ) (v : Contribution) → get_elem? hands port ≡ some v → v.parts ≡ 0 → (v.put ≡ []) × (v.taken ≡ [])

-- the pids that were put are those that were taken and those in the queue, each as often
abbrev pub Balanced : List ℕ → List Contribution → Type 0
Balanced items hands =
    (total (λ v. v.parts) hands ≡ 1024)
    × ((h : ℕ → ℕ) → total (λ v. total h v.put) hands ≡ total (λ v. total h v.taken) hands + total h items)
    × IdleIsEmpty hands

-- the contribution that a pass holds
abbrev pub contribution_of : {A : Type 0} → Pass ℕ Contribution A → Contribution
contribution_of p = view p

module _ {A P : Type 0} where
  -- a queue into which nothing was put, and of which no part is cut off
  abbrev pub IsFresh : Worker ℕ A Contribution P → Type 0
  IsFresh d = (worker_view d ≡ contribution 1024 [] []) × (worker_flavor d ≡ 0)

  abbrev pub AreFresh : List (Worker ℕ A Contribution P) → Type 0
  AreFresh [] = Unit {0}
  AreFresh (d ∷ ds) = IsFresh d × AreFresh ds

  abbrev pub IsSame : Worker ℕ A Contribution P → Worker ℕ A Contribution P → Type 0
  IsSame old new = (worker_deque new ≡ worker_deque old) × (worker_flavor new ≡ worker_flavor old)
