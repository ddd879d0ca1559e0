-- The first element of a list that passes a test.
use Rattle.std.specs.Prelude.{ℕ, ◌+◌, Bool, if◌then◌else◌, List, [], ◌∷◌, drop, Option, Some, None, option_map}

-- the position of the first element that passes a test
abbrev pub first_position : {X : Type 0} → (X → Bool) → List X → Option ℕ
first_position test [] = None
first_position test (x ∷ rest) = if test x then Some 0 else option_map (λ n. n + 1) (first_position test rest)

-- the position of the first element, at this position or after it, that passes a test
abbrev pub position_from : {X : Type 0} → (X → Bool) → ℕ → List X → Option ℕ
position_from test from xs = option_map (λ n. from + n) (first_position test (drop from xs))
