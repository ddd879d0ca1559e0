-- Times that stand for two neighbours each.
use Rattle.std.specs.Prelude.{ℕ, List, [], ◌∷◌, Option}
use Rattle.beam_agenda.specs.Entries.{earlier}

-- the earlier time of each pair of neighbours; the last time by itself where their count is odd
abbrev pub pairs : List (Option ℕ) → List (Option ℕ)
pairs [] = []
pairs (a ∷ []) = a ∷ []
pairs (a ∷ b ∷ rest) = earlier a b ∷ pairs rest
