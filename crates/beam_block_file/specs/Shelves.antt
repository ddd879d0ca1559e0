-- What a device tells of its bytes and its failures, for contracts.
use Rattle.std.specs.Prelude.{◌≡◌, ℕ, ◌+◌, ◌-◌, ◌^◌, min, List, ◌++◌, length, drop, Option, Some, None}

-- the bytes so far and then these, if the device tells them
abbrev pub appended : Option (List ℕ) → List ℕ → Option (List ℕ)
appended None bytes = None
appended (Some known) bytes = Some (known ++ bytes)

-- one failure more, up to the greatest count
abbrev pub saturating_increment : ℕ → ℕ
saturating_increment n = min (n + 1) (2 ^ 64 - 1)

-- the bytes from a place on begin with these
abbrev pub StandAt : ℕ → List ℕ → List ℕ → Type 0
StandAt at read bytes = drop at bytes ≡ read ++ drop (at + length read) bytes

-- behind what was there before, a beginning of these bytes was added
pub record IsBegun (old : Option (List ℕ)) (bytes : List ℕ) (new : Option (List ℕ)) : Type 0 where
  pub begun : List ℕ
  pub left : List ℕ
  pub splits : begun ++ left ≡ bytes
  pub told : new ≡ appended old begun
