-- An entry of the process table.
use Rattle.std.specs.Prelude.{◌≡◌, ℕ, [], Option, Some, None}
use Rattle.beam_machine.specs.declared.process.Goes.TheVariants.{Nowhere}
use Rattle.beam_machine.specs.declared.process.Status.{Status}
use Rattle.beam_machine.specs.Prelude.{Process}
use Rattle.beam_term.specs.Prelude.{TermValue}
use Rattle.beam_machine.specs.declared.process.Status.TheVariants.{Ended}
use Rattle.beam_model.specs.Prelude.{empty_mailbox}
use Rattle.beam_proc.specs.declared.entry.EntryState.{EntryState}
use Rattle.beam_proc.specs.declared.entry.EntryState.TheVariants as state

-- a process that has only its pid and its status
abbrev pub bare : ℕ → Status → Process
bare pid status = record {
  pid = pid;
  name = None;
  x = [];
  frames = [];
  goes = Nowhere;
  mailbox = empty_mailbox;
  transit = [];
  deadline = None;
  pending = None;
  status = status;
  monitors = [];
}

abbrev pub process_in : EntryState → Process
process_in (state.Living p) = p.value
process_in (state.Ended pid reason value) = bare pid (Ended reason value)

-- a process that has only its pid and its end
abbrev pub HasOnlyEnd : Process → Type 0
HasOnlyEnd p = (reason value : TermValue) × (p ≡ bare p.pid (Ended reason value))

-- nothing is kept of a process but its pid and its end, where it has nothing else
abbrev pub IsSettled : EntryState → Type 0
IsSettled (state.Living p) = HasOnlyEnd p.value → ⊥
IsSettled (state.Ended pid reason value) = Unit {0}

-- the reason and the value of an end
abbrev pub end_of : Status → Option (TermValue × TermValue)
end_of (Ended reason value) = Some (reason, value)
end_of _ = None
