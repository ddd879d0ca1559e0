-- What a device reports of its bytes, its reads and its failures, for contracts.
use Rattle.std.specs.Prelude.{◌≡◌, ℕ, ◌+◌, ◌-◌, ◌^◌, min, List, [], ◌∷◌, ◌++◌, Option, Some, None}
use Rattle.std.specs.List.{All}

-- the bytes so far and then these, if the device reports them
abbrev pub appended : {X : Type 0} → Option (List X) → List X → Option (List X)
appended None bytes = None
appended (Some known) bytes = Some (known ++ bytes)

-- the moment at which a read began: what had been read and written
pub record Moment : Type 0 where
  pub read : Option (List ℕ)
  pub written : Option (List ℕ)

-- the moments so far, and that of one more read
abbrev pub one_read : Option (List Moment) → Option (List ℕ) → Option (List ℕ) → Option (List Moment)
one_read moments read written = appended moments (record { read = read; written = written } ∷ [])

-- a statement holds of the moment at which each read began since the first report
abbrev pub EachRead : (Moment → Type 0) → Option (List Moment) → Option (List Moment) → Type 0
EachRead P old new = (moments : List Moment) × (new ≡ appended old moments) × All P moments

-- one failure more, up to the greatest count
abbrev pub saturating_increment : ℕ → ℕ
saturating_increment n = min (n + 1) (2 ^ 64 - 1)

-- after what was written before, a beginning of these bytes was written
pub record IsBegun (old : Option (List ℕ)) (bytes : List ℕ) (new : Option (List ℕ)) : Type 0 where
  pub begun : List ℕ
  pub left : List ℕ
  pub splits : begun ++ left ≡ bytes
  pub told : new ≡ appended old begun
