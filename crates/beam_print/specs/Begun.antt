-- How much of a text was written, where it is written piece by piece.
use Rattle.std.specs.Prelude.{◌≡◌, ◌++◌, ℕ, List, Option}
use Rattle.std.specs.Io.KnownBytes.{Appends}

-- the text was written up to this rest
pub record IsWrittenUpTo (old new : Option (List ℕ)) (text rest : List ℕ) : Type 0 where
  pub front : List ℕ
  pub whole : text ≡ front ++ rest
  pub appended : Appends old new front

-- a beginning of the text was written, and nothing else: none of it, a part, or all
pub record IsBegun (old new : Option (List ℕ)) (text : List ℕ) : Type 0 where
  pub rest : List ℕ
  pub written : IsWrittenUpTo old new text rest
