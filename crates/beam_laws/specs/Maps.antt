-- The code as a map from modules to their instances.
use Rattle.std.specs.Prelude.{◌≡◌, ℕ, true, false, List, [], ◌∷◌}
use Rattle.std.specs.List.{AllByRecursion}
use Rattle.beam_machine.specs.Prelude.{Code, has_instance}
use Rattle.beam_model.specs.Prelude.{same_text}

-- no module of the code has that name
abbrev pub Lacks : Code → List ℕ → Type 0
Lacks code name = AllByRecursion (λ v. same_text v.name name ≡ false) code

-- each module is there once, and has an instance
abbrev pub IsMap : Code → Type 0
IsMap [] = Unit {0}
IsMap (v ∷ rest) = (has_instance v ≡ true) × (Lacks rest v.name × IsMap rest)
