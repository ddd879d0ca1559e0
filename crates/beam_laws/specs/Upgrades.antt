-- The code that an upgrade list makes.
use Rattle.std.specs.Prelude.{ℕ, ◌+◌, List, [], ◌∷◌}
use Rattle.beam_machine.specs.Prelude.{Code, loaded}
use Rattle.beam_model.specs.Prelude.{Listing}

-- the code with these listings loaded one after another, under the numbers after the count
abbrev pub loaded_each : Code → ℕ → List Listing → Code
loaded_each code count [] = code
loaded_each code count (l ∷ rest) = loaded_each (loaded code (count + 1) l) (count + 1) rest
