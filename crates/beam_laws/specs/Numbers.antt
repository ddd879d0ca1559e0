-- The numbers of instances.
use Rattle.std.specs.Prelude.{◌≡◌, ◌<◌, ◌≤◌, ℕ, ◌+◌, ◌==◌, if◌then◌else◌, [], ◌∷◌, Option, Some, None}
use Rattle.beam_machine.specs.Prelude.{Code, Instance}

abbrev pub bears : ℕ → Option Instance → ℕ
bears n None = 0
bears n (Some i) = if i.number == n then 1 else 0

-- how many current and old instances of all modules bear a number
abbrev pub how_many : ℕ → Code → ℕ
how_many n [] = 0
how_many n (v ∷ rest) = bears n v.current + (bears n v.old + how_many n rest)

-- no instance has a number above the count, and no two have one number
abbrev pub Ordered : Code → ℕ → Type 0
Ordered code count = (n : ℕ) → (how_many n code ≤ 1) × (count < n → how_many n code ≡ 0)
