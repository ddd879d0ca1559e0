-- The least of a list of times.
use Rattle.std.specs.Prelude.{ℕ, List, [], ◌∷◌, Option, None}
use Rattle.beam_agenda.specs.Entries.{earlier}

abbrev pub least_of : List (Option ℕ) → Option ℕ
least_of [] = None
least_of (due ∷ rest) = earlier due (least_of rest)
