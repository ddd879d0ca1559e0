-- Monitors as entries by the numbers of their references, and which of them are kept.
use Rattle.std.specs.Prelude.{◌≡◌, ◌≢◌, ◌<◌, ℕ, Bool, List, [], ◌∷◌, map, length, slice_index_or, if◌then◌else◌}
use Rattle.std.specs.List.{AllByRecursion}
use Rattle.beam_machine.specs.declared.process.Monitor.{Monitor}
use Rattle.beam_term.specs.Prelude.{TermValue, nil_term}

abbrev pub monitors_in : List (ℕ × TermValue) → List Monitor
monitors_in entries = map (λ e. record { reference = e.0; pid = e.1 }) entries

-- all these monitors have lesser references than this one
abbrev pub AreBelow : ℕ → List Monitor → Type 0
AreBelow reference ms = AllByRecursion (λ m. m.reference < reference) ms

-- each of the second monitors has a greater reference than all of the first
abbrev pub AreApart : List Monitor → List Monitor → Type 0
AreApart earlier later = AllByRecursion (λ m. AreBelow m.reference earlier) later

-- the entries whose flags are set
abbrev pub flagged : List (ℕ × TermValue) → List Bool → List (ℕ × TermValue)
flagged [] flags = []
flagged (e ∷ entries) [] = []
flagged (e ∷ entries) (flag ∷ flags) = if flag then e ∷ flagged entries flags else flagged entries flags

-- the reference of the entry at a place
abbrev pub reference_at : List (ℕ × TermValue) → ℕ → ℕ
reference_at entries i = let e = slice_index_or entries i (0, nil_term) in e.0

-- the references rise
abbrev pub AreRising : List (ℕ × TermValue) → Type 0
AreRising entries = (i j : ℕ) → i < j → j < length entries → reference_at entries i < reference_at entries j

-- the entry at a place is of a reference
pub record IsPlaceOf (entries : List (ℕ × TermValue)) (reference i : ℕ) : Type 0 where
  pub within : i < length entries
  pub same : reference_at entries i ≡ reference

-- no entry is of a reference
abbrev pub IsAbsent : List (ℕ × TermValue) → ℕ → Type 0
IsAbsent entries reference = (i : ℕ) → i < length entries → reference_at entries i ≢ reference

-- there are as many flags as entries, the references rise, and `count` flags are set
pub record AreFlagged (entries : List (ℕ × TermValue)) (flags : List Bool) (count : ℕ) : Type 0 where
  pub each : length entries ≡ length flags
  pub rising : AreRising entries
  pub counted : count ≡ length (flagged entries flags)
