-- Sums over lists. (This crate's own.)
use Rattle.std.specs.Prelude.{ℕ, ◌+◌, ◌==◌, if◌then◌else◌, List, [], ◌∷◌}

abbrev pub total : {X : Type 0} → (X → ℕ) → List X → ℕ
total f [] = 0
total f (x ∷ xs) = f x + total f xs

abbrev pub one_if : ℕ → ℕ → ℕ
one_if x y = if y == x then 1 else 0

-- how often x stands in the list
abbrev pub times : ℕ → List ℕ → ℕ
times x xs = total (one_if x) xs
