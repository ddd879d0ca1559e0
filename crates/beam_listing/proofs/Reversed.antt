-- A stack whose last element is the innermost.
use Rattle.std.proofs.Common.{◌≡◌, ℕ, List, [], ◌∷◌, ◌++◌, length, reverse}
use Rattle.std.proofs.lemmas.List.{reverse-append, length-reverse}

pub reversed_push : (outer : List ℕ) (c : ℕ) → reverse (outer ++ c ∷ []) ≡ c ∷ reverse outer
reversed_push outer c = reverse-append outer (c ∷ [])

pub reversed_length : (brackets : List ℕ) → length (reverse brackets) ≡ length brackets
reversed_length brackets = length-reverse brackets
