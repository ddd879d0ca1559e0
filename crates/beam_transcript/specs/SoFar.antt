-- What had been read and written at a moment.
use Rattle.std.specs.Prelude.{ℕ, List}

pub record SoFar : Type 0 where
  pub read : List ℕ
  pub written : List ℕ
