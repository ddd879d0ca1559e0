-- Whether two texts are one.
use Rattle.std.specs.Prelude.{ℕ, nat_eq, Bool, List}
use Rattle.std.specs.Cmp.Lexicographic.{pointwise}

abbrev pub same_text : List ℕ → List ℕ → Bool
same_text = pointwise nat_eq
