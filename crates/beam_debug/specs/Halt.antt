-- Rows of a process, where memory may be refused.
use Rattle.std.specs.Prelude.{◌≡◌, ℕ, Option, Some, None, option_map, Result, Ok, Err}
use Rattle.beam_model.specs.Prelude.{Listing}
use Rattle.beam_machine.specs.declared.event.Event.{Event}
use Rattle.beam_machine.specs.declared.event.Event.TheVariants.{Steps}
use Rattle.beam_machine.specs.declared.event.Refused.{Refused}
use Rattle.beam_machine.specs.declared.event.Refused.TheVariants.{NoMemory}
use Rattle.beam_machine.specs.declared.event.Then.{Then}
use Rattle.beam_machine.specs.Prelude.{then_of, State, process_of}
use Rattle.beam_machine.specs.Next.{steps}

-- how the process of that number stands
abbrev pub then_at : State → ℕ → Option Then
then_at s pid = option_map (λ p. then_of p.status) (process_of s.processes pid)

-- the process and the number of rows of an event that runs rows
abbrev pub steps_in : Event Listing → Option (ℕ × ℕ)
steps_in (Steps pid n) = Some (pid, n)
steps_in _ = None

-- one row of a process that runs, and how the process stands after it; or memory was refused, and nothing changed
abbrev pub RowIs : State → ℕ → Result Then Refused → State → Type 0
RowIs s pid (Ok after) t = (steps s pid 1 ≡ record { count = 1; state = t }) × (then_at t pid ≡ Some after)
RowIs s pid (Err refusal) t = (refusal ≡ NoMemory) × (t ≡ s)
