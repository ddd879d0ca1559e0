-- The node's state but for its code.
use Rattle.std.specs.Prelude.{◌≡◌, ℕ, Bool, true, false, ◌&&◌, nat_le, List, [], Option, Some, None, option_map, is_ok, IsErrOf}
use Rattle.beam_model.specs.Prelude.{Listing}
use Rattle.beam_machine.specs.declared.process.Deadline.{Deadline}
use Rattle.beam_machine.specs.declared.process.Status.{Status}
use Rattle.beam_machine.specs.declared.event.Event.{Event}
use Rattle.beam_machine.specs.declared.event.Refused.TheVariants.{NoMemory}
use Rattle.beam_machine.specs.declared.event.Then.{Then}
use Rattle.beam_machine.specs.Prelude.{Code, Process, is_waiting, then_of, State, process_of, Answer, next, Answers, LacksMemory}

pub record Parts : Type 0 where
  pub processes : List Process  -- by their pids: process n is the n-th that was started; the ended ones stay
  pub clock : ℕ  -- in milliseconds
  pub instances : ℕ  -- how many were loaded; the last has this number
  pub references : ℕ  -- how many were made; the last has this number

-- the parts, by these four
abbrev pub parts : List Process → ℕ → ℕ → ℕ → Parts
parts ps clock instances references = record { processes = ps; clock = clock; instances = instances; references = references }

-- before the first event
abbrev pub fresh : Parts
fresh = parts [] 0 0 0

-- the node of this code and these parts
abbrev pub node : Code → Parts → State
node code s = record { code = code; processes = s.processes; clock = s.clock; instances = s.instances; references = s.references }

-- the parts with other processes
abbrev pub with_processes : Parts → List Process → Parts
with_processes s ps = record s { processes = ps }

-- how the process of that number stands
abbrev pub then_at : List Process → ℕ → Option Then
then_at ps pid = option_map (λ p. then_of p.status) (process_of ps pid)

-- ---- events

-- an event is answered so whatever the code is, and leaves the code as it is
abbrev pub AnswersAlone : Parts → Event Listing → Answer → Parts → Type 0
AnswersAlone old event answer new = (code : Code) → Answers (node code old) event answer (node code new)

-- an event that needs no code is refused memory only where it may need some, whatever the code is
abbrev pub LacksAlone : Parts → Event Listing → Answer → Parts → Type 0
LacksAlone old event answer new = (code : Code) → LacksMemory (node code old) event answer (node code new)

-- an event that changes processes alone is answered so, whatever the code, the clock and the counts of instances and references are
abbrev pub AnswersByProcesses : List Process → Event Listing → Answer → List Process → Type 0
AnswersByProcesses old event answer new =
    (code : Code) (clock instances references : ℕ)
    → Answers (node code (parts old clock instances references)) event answer (node code (parts new clock instances references))

-- an event is refused for want of memory only where the definition accepts it
abbrev pub AcceptedByProcesses : List Process → Event Listing → Answer → Type 0
AcceptedByProcesses old event answer =
    (code : Code) (clock instances references : ℕ)
    → IsErrOf answer NoMemory → is_ok (next (node code (parts old clock instances references)) event).answer ≡ true

-- whether a process waits and its deadline has come
abbrev pub is_due : ℕ → Status → Option Deadline → Bool
is_due clock status (Some d) = is_waiting status && nat_le d.at clock
is_due clock status None = false
