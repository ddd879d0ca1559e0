-- The state of the node: code, processes, the clock, and how many instances and references there were (Erlang Reference Manual, Processes:
-- Registered Processes, Signals, Monitors).
use Rattle.std.specs.Prelude.{ℕ, Bool, false, ◌-◌, nat_lt, if◌then◌else◌, List, [], ◌∷◌, ◌++◌, map, filter, slice_get, slice_set, Option, Some, None}
use Rattle.beam_term.specs.Prelude.{TermValue, atom_term, pid_term}
use Rattle.beam_machine.specs.declared.process.Monitor.{Monitor}
use Rattle.beam_machine.specs.declared.process.Signal.{Signal}
use Rattle.beam_machine.specs.declared.process.Signal.TheVariants.{Down}
use Rattle.beam_machine.specs.declared.process.Status.{Status}
use Rattle.beam_machine.specs.declared.process.Status.TheVariants.{Ended}
use Rattle.beam_model.specs.Prelude.{is_this_number, same_text}
use Rattle.beam_machine.specs.Code.{Code}
use Rattle.beam_machine.specs.Process.{Process, is_ended}
use Rattle.beam_machine.specs.Row.{own_number}

pub record State : Type 0 where
  pub code : Code
  pub processes : List Process  -- by their pids: process n is the n-th that was started; the ended ones stay
  pub clock : ℕ  -- in milliseconds
  pub instances : ℕ  -- how many were loaded; the last has this number
  pub references : ℕ  -- how many were made; the last has this number

-- the node before the first event
abbrev pub empty : State
empty = record { code = []; processes = []; clock = 0; instances = 0; references = 0 }

-- ---- processes by their numbers and names

abbrev pub process_of : List Process → ℕ → Option Process
process_of ps pid = if nat_lt 0 pid then slice_get ps (pid - 1) else None

abbrev pub with_process : List Process → ℕ → Process → List Process
with_process ps pid p = slice_set ps (pid - 1) p

abbrev pub alive : Option Process → Option Process
alive (Some p) = if is_ended p.status then None else Some p
alive None = None

-- the process of that number, if it hasn't ended
abbrev pub live_process : List Process → ℕ → Option Process
live_process ps pid = alive (process_of ps pid)

abbrev pub has_name : List ℕ → Option (List ℕ) → Bool
has_name name (Some n) = same_text n name
has_name name None = false

-- the process that is registered under a name; the end of a process frees its name
abbrev pub registered : List Process → List ℕ → Option ℕ
registered [] name = None
registered (p ∷ rest) name = if has_name name p.name then Some p.pid else registered rest name

-- the process that a term names: a pid, or a name
abbrev pub receiver_of : List Process → TermValue → Option ℕ
receiver_of ps (atom_term name) = registered ps name
receiver_of ps (pid_term host id serial creation) = own_number (pid_term host id serial creation)
receiver_of ps _ = None

-- ---- signals

-- a signal to a process that has ended, or was never started, is dropped
abbrev pub posted_to : List Process → ℕ → Signal → Option Process → List Process
posted_to ps pid signal (Some p) = with_process ps pid (record p { transit = p.transit ++ signal ∷ [] })
posted_to ps pid signal None = ps

abbrev pub posted : List Process → ℕ → Signal → List Process
posted ps pid signal = posted_to ps pid signal (live_process ps pid)

-- a process with more signals in transit to it; one that has ended gets none
abbrev pub with_signals : List Signal → Process → Process
with_signals signals p = if is_ended p.status then p else record p { transit = p.transit ++ signals }

-- ---- ends of processes that are watched

-- whether a monitor watches the process of that number
abbrev pub monitors_process : ℕ → Monitor → Bool
monitors_process pid m = is_this_number pid (own_number m.pid)

-- a DOWN for each monitor of a process that has ended, in the order of the references
abbrev pub downs : ℕ → TermValue → List Monitor → List Signal
downs pid reason ms = map (λ m. Down m.reference reason) (filter (monitors_process pid) ms)

-- the processes after the end of one: each gets a DOWN for each monitor that it has of that one
abbrev pub hearing : ℕ → TermValue → List Process → List Process
hearing pid reason ps = map (λ q. with_signals (downs pid reason q.monitors) q) ps

abbrev pub hearing_by : ℕ → Status → List Process → List Process
hearing_by pid (Ended reason value) ps = hearing pid reason ps
hearing_by pid status ps = ps

-- the processes with one as a row, or a signal, made it; if it has ended, the others get their DOWNs
abbrev pub with_made : List Process → ℕ → Process → List Process
with_made ps pid p = hearing_by pid p.status (with_process ps pid p)
