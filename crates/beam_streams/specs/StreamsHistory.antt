-- What contracts see of a device of two streams.
use Rattle.std.specs.Prelude.{◌≡◌, ℕ, Bool, true, List, [], ◌∷◌, ◌++◌, Option, Some, IfSome}
use Rattle.beam_transcript.specs.SoFar.{SoFar}
use Rattle.beam_remote.specs.DeviceHistory.{Moment, saturating_increment}

-- what the input had and the output held at first, where they tell, and all that happened since
pub record StreamsHistory : Type 0 where
  pub first_remaining : Option (List ℕ)
  pub first_contents : Option (List ℕ)
  pub read : List ℕ
  pub written : List ℕ
  pub moments : List Moment
  -- the last read that had room gave nothing
  pub ended : Bool
  pub failures : ℕ

abbrev pub moment : SoFar → Moment
moment so_far = record { read = Some so_far.read; written = Some so_far.written }

-- a read that gave these bytes
abbrev pub with_read : StreamsHistory → List ℕ → Bool → StreamsHistory
with_read h bytes ended =
    record h { read = h.read ++ bytes; moments = h.moments ++ record { read = Some h.read; written = Some h.written } ∷ []; ended = ended }

-- a write that took these bytes
abbrev pub with_written : StreamsHistory → List ℕ → StreamsHistory
with_written h bytes = record h { written = h.written ++ bytes }

-- a call that failed
abbrev pub with_failure : StreamsHistory → StreamsHistory
with_failure h = record h { failures = saturating_increment h.failures }

-- where the input ended, and told what it had, all of that was read
abbrev pub IsWholeAtEnd : Bool → Option (List ℕ) → List ℕ → Type 0
IsWholeAtEnd ended first read = ended ≡ true → IfSome first (λ all. read ≡ all)
