-- The old instances of several modules.
use Rattle.std.specs.Prelude.{◌≡◌, ℕ, Bool, false, List, Option, Some, None}
use Rattle.std.specs.List.{list_any}
use Rattle.beam_machine.specs.Prelude.{Code, old_of}
use Rattle.beam_model.specs.Prelude.{Listing}

-- whether there is a number, and it passes a test
abbrev pub passes : (ℕ → Bool) → Option ℕ → Bool
passes test (Some n) = test n
passes test None = false

-- these numbers are those of the modules' old instances: a test passes one of the numbers exactly if it passes one of the old instances
abbrev pub AreOld : Code → List Listing → List ℕ → Type 0
AreOld code ls numbers = (test : ℕ → Bool) → list_any test numbers ≡ list_any (λ l. passes test (old_of code l.name)) ls
