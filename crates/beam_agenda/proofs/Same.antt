-- The test whether two times are equal.
use Rattle.std.proofs.Common.{◌≡◌, ℕ, nat_eq, true, refl, ap, Option, Some, None, eqb-true}
use Rattle.std.specs.Option.{option_eq}

pub same_due : (a b : Option ℕ) → option_eq nat_eq a b ≡ true → a ≡ b
same_due None None h = refl
same_due None (Some b) h = cc
same_due (Some a) None h = cc
same_due (Some a) (Some b) h = ap Some (eqb-true a b h)
