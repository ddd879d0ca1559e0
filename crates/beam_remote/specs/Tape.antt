-- A device over memory.
use Rattle.std.specs.Prelude.{◌≤◌, ℕ, List, [], ◌∷◌, ◌++◌, length, map, take, Some}
use Rattle.beam_remote.specs.declared.memory.Counts.{Counts}
use Rattle.beam_remote.specs.DeviceHistory.{Moment}

pub record Tape : Type 0 where
  pub given : List ℕ  -- all bytes that the device has to give
  pub at : ℕ  -- how many of these bytes it gave
  pub taken : List ℕ  -- the bytes that it took
  pub failures : ℕ  -- how many calls failed
  pub reads : List Counts  -- how many bytes it had given and taken when each read began that didn't fail

-- the bytes that the device gave
abbrev pub given_so_far : Tape → List ℕ
given_so_far t = take t.at t.given

-- one more read begins
abbrev pub with_read : Tape → Tape
with_read t = record t { reads = t.reads ++ record { given = t.at; taken = length t.taken } ∷ [] }

-- what the device had given and taken when a read began
abbrev pub moment_of : Tape → Counts → Moment
moment_of t c = record { read = Some (take c.given t.given); written = Some (take c.taken t.taken) }

-- what the device had given and taken when each read began
abbrev pub moments_of : Tape → List Moment
moments_of t = map (moment_of t) t.reads

-- at each of these reads the device had taken at most n bytes
abbrev pub AreTaken : ℕ → List Counts → Type 0
AreTaken n [] = Unit {0}
AreTaken n (c ∷ cs) = (c.taken ≤ n) × AreTaken n cs
