-- A list of integers is as deep as it is long.
use Rattle.std.proofs.Common.{ℕ, ◌≤◌, List, [], ◌∷◌, length, arith}
use Rattle.beam_model.specs.Prelude.{text_list}
use Rattle.beam_term.specs.Prelude.{depth_of}

pub text_depth : (text : List ℕ) → depth_of (text_list text) ≤ length text
text_depth [] = omega arith
text_depth (byte ∷ text) = omega (arith, text_depth text)
