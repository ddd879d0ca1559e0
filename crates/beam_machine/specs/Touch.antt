-- The parts of the node that an event may touch. (This node's own.)
use Rattle.std.specs.Prelude.{◌≡◌, ℕ, ◌+◌, ◌≤◌, List, [], ◌∷◌, ◌++◌, length, Some, None}
use Rattle.beam_term.specs.Prelude.{TermValue}
use Rattle.beam_machine.specs.declared.event.Event.{Event}
use Rattle.beam_machine.specs.declared.event.Event.TheVariants as event
use Rattle.beam_machine.specs.declared.process.Deadline.{Deadline}
use Rattle.beam_machine.specs.declared.process.Signal.{Signal}
use Rattle.beam_machine.specs.declared.process.Status.TheVariants.{Running}
use Rattle.beam_model.specs.Prelude.{Listing}
use Rattle.beam_machine.specs.Change.{old_of, deleted}
use Rattle.beam_machine.specs.Next.{put_process, made_process, steps, delivered, end_old, end_olds, purge_old, load_new}
use Rattle.beam_machine.specs.Process.{Process, started}
use Rattle.beam_machine.specs.Row.{goes_on}
use Rattle.beam_machine.specs.State.{State, live_process, posted}

pub data Touch : Type 0 where
  code : Touch  -- the code, and the processes that linger in removed code, which end
  process : ℕ → Touch  -- a process; by its signals and its end it may reach others
  clock : Touch
  nothing : Touch  -- neither code nor clock; only a signal to a process, or a new process

abbrev pub touch_of : {I : Type 0} → Event I → Touch
touch_of (event.Load l) = code
touch_of (event.LoadStrict l) = code
touch_of (event.AtomicLoad mode ls) = code
touch_of (event.Delete name) = code
touch_of (event.SoftPurge name) = code
touch_of (event.Purge name) = code
touch_of (event.Steps pid n) = process pid
touch_of (event.Deliver pid) = process pid
touch_of (event.Timeout pid) = process pid
touch_of (event.Clock now) = clock
touch_of e = nothing

-- the second state may come from the first by a change that touches only this
pub data Touches : Touch → State → State → Type 0 where
  stays : (t : Touch) (s : State) → Touches t s s
  in_turn : (t : Touch) (s u v : State) → Touches t s u → Touches t u v → Touches t s v
  loads : (s : State) (l : Listing) → Touches code s (load_new (end_old s l.name) l).state
  deletes : (s : State) (name : List ℕ) → old_of s.code name ≡ None → Touches code s (record s { code = deleted s.code name })
  ends : (s : State) (ls : List Listing) → Touches code s (end_olds s ls)
  purges : (s : State) (name : List ℕ) → Touches code s (purge_old s name)
  runs : (s : State) (pid n : ℕ) → Touches (process pid) s (steps s pid n).state
  -- all signals in transit to the process arrive
  arrives : (s : State) (pid : ℕ) (p : Process) → live_process s.processes pid ≡ Some p
      → Touches (process pid) s (made_process s pid (delivered (record p { transit = [] }) p.transit))
  times_out : (s : State) (pid : ℕ) (p : Process) (d : Deadline) → live_process s.processes pid ≡ Some p → p.deadline ≡ Some d
      → Touches (process pid) s (put_process s pid (record (goes_on p d.after) { deadline = None; status = Running }))
  ticks : (s : State) (now : ℕ) → s.clock ≤ now → Touches clock s (record s { clock = now })
  posts : (s : State) (to : ℕ) (signal : Signal) → Touches nothing s (record s { processes = posted s.processes to signal })
  starts : (s : State) (name function : List ℕ) (arguments : List TermValue)
      → Touches nothing s (record s { processes = s.processes ++ started (length s.processes + 1) name function arguments ∷ [] })
