-- Rows of a process that stop before a break spot, where memory may be refused. (This node's own.)
use Rattle.std.specs.Prelude.{◌≡◌, ℕ, Bool, true, false, nat_lt, IsTrue, List, [], Option, Some, None, Result, Ok, Err}
use Rattle.beam_model.specs.Prelude.{Place}
use Rattle.beam_machine.specs.declared.event.Refused.{Refused}
use Rattle.beam_machine.specs.declared.event.Refused.TheVariants.{NoMemory}
use Rattle.beam_machine.specs.declared.event.Then.{Then}
use Rattle.beam_machine.specs.declared.event.Then.TheVariants.{GoesOn}
use Rattle.beam_machine.specs.Prelude.{Halting, halting, IsLoud, effective_rows, State, process_of}
use Rattle.beam_state.specs.Prelude.{then_at}

-- `count` rows are executed
abbrev pub rows_done : ℕ → State → Halting
rows_done count s = record { rows = record { count = count; state = s }; stopped = false }

-- `count` rows are executed, and the process stops before the row of a break spot
abbrev pub rows_stopped : ℕ → State → Halting
rows_stopped count s = record { rows = record { count = count; state = s }; stopped = true }

-- rows of a process that runs, of which n were asked for. `Some`: the process stands so after them; `None`: it stopped before a break spot;
-- an error: memory was refused, and nothing changed
abbrev pub HaltsAt : List Place → Bool → ℕ → ℕ → State → Result (ℕ × Option Then) Refused → State → Type 0
HaltsAt spots passes pid n s (Ok (count, Some after)) t =
    (halting spots passes s pid (effective_rows n count after) ≡ rows_done count t) × (then_at t.processes pid ≡ Some after)
HaltsAt spots passes pid n s (Ok (count, None)) t =
    (halting spots passes s pid n ≡ rows_stopped count t) × (then_at t.processes pid ≡ Some GoesOn)
HaltsAt spots passes pid n s (Err refusal) t = (refusal ≡ NoMemory) × (t ≡ s)

-- rows of a process that runs, without break spots. `Some`: this count of them is executed, and the process stands so after them; `None`:
-- nothing changed; an error: memory was refused, and nothing changed
abbrev pub ShortHaltsAt : ℕ → State → Result (Option (ℕ × Then)) Refused → State → Type 0
ShortHaltsAt pid s (Ok (Some (count, after))) t = (halting [] false s pid count ≡ rows_done count t) × (then_at t.processes pid ≡ Some after)
ShortHaltsAt pid s (Ok None) t = t ≡ s
ShortHaltsAt pid s (Err refusal) t = (refusal ≡ NoMemory) × (t ≡ s)

-- a quiet row is refused no memory: neither as the first of n rows, nor as the next after some
abbrev pub HaltsLoudly : ℕ → ℕ → State → Result (ℕ × Option Then) Refused → State → Type 0
HaltsLoudly pid n s (Ok (count, Some GoesOn)) t = IsTrue (nat_lt count n) → IsLoud t.code (process_of t.processes pid)
HaltsLoudly pid n s (Ok (count, after)) t = Unit {0}
HaltsLoudly pid n s (Err refusal) t = IsLoud s.code (process_of s.processes pid)
