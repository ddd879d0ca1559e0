-- A value that is there.
use Rattle.std.proofs.Common.{◌≡◌, true, refl, Option, Some, None, is_some, unwrap_or}

pub present : {A : Type 0} (o : Option A) (otherwise : A) → is_some o ≡ true → o ≡ Some (unwrap_or o otherwise)
present None otherwise e = cc
present (Some x) otherwise e = refl
