-- How deep what is read may be.
use Rattle.std.proofs.Common.{ℕ, ◌≤◌, List, [], ◌∷◌, length, arith}
use Rattle.beam_model.specs.Prelude.{list_of_characters}
use Rattle.beam_term.specs.Prelude.{depth_of}

-- each pair of a string's list is one level
pub depth_of_characters : (cs : List ℕ) → depth_of (list_of_characters cs) ≤ length cs
depth_of_characters [] = omega arith
depth_of_characters (c ∷ cs) = omega (arith, depth_of_characters cs)
