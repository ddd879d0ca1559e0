-- The parts of a list of entries.
use Rattle.std.specs.Prelude.{◌≡◌, ℕ, List, [], ◌∷◌, Option}
use Rattle.beam_agenda.specs.declared.entry.AgendaEntry.{AgendaEntry}
use Rattle.beam_agenda.specs.Groups.{is_set}

-- one entry for each number with a time
abbrev pub entries_of : List ℕ → List (Option ℕ) → List AgendaEntry
entries_of [] ts = []
entries_of (n ∷ ns) [] = []
entries_of (n ∷ ns) (t ∷ ts) = record { ready = is_set n; due = t } ∷ entries_of ns ts

-- each time has a number, and a number without a time is 0
abbrev pub Covers : List ℕ → List (Option ℕ) → Type 0
Covers [] [] = Unit {0}
Covers [] (t ∷ ts) = ⊥
Covers (n ∷ ns) [] = (n ≡ 0) × Covers ns []
Covers (n ∷ ns) (t ∷ ts) = Covers ns ts
