-- One after the other.
use Rattle.std.specs.Prelude.{◌≡◌, List, [], ◌∷◌, ◌++◌}

-- the whole is one list for each element, one after the other, where `stands` holds of each element and its list
abbrev pub InSequence : {X A : Type 0} → (X → List A → Type 0) → List X → List A → Type 0
InSequence stands [] whole = whole ≡ []
InSequence {A = A} stands (x ∷ xs) whole = (front rest : List A) × (whole ≡ front ++ rest) × stands x front × InSequence stands xs rest
