-- A process that is out: checked out, to be run apart from the node. (This node's own.)
use Rattle.std.specs.Prelude.{◌≡◌, ◌⊎◌, ℕ, ◌==◌, Bool, true, false, Some}
use Rattle.beam_machine.specs.declared.debug.DebugEvent.{DebugEvent}
use Rattle.beam_machine.specs.declared.debug.DebugEvent.TheVariants.{StepOne, Node as NodeEvent}
use Rattle.beam_machine.specs.declared.event.Event.{Event}
use Rattle.beam_machine.specs.Prelude.{Debugged, is_among, Process, is_ended, process_of, Touch, process, touch_of}
use Rattle.beam_model.specs.Prelude.{Listing}
use Rattle.beam_laws.specs.Private.{IsStill}
use Rattle.beam_laws.specs.Origin.{Origin}

-- q is the process as it was checked out, but for its name and its signals in transit; it isn't held, and may pass a spot if it might then
abbrev pub IsAsItWas : Debugged → Origin → Process → Type 0
IsAsItWas d o q = IsStill o.process q × (is_among o.pid d.held ≡ false) × (is_among o.pid d.passing ≡ o.passes)

-- the process is there, and has ended or is still as it was checked out
abbrev pub IsOut : Debugged → Origin → Type 0
IsOut d o = (q : Process) × (process_of d.node.processes o.pid ≡ Some q) × ((is_ended q.status ≡ true) ⊎ IsAsItWas d o q)

abbrev pub touches_process : ℕ → Touch → Bool
touches_process pid (process at) = at == pid
touches_process pid t = false

-- whether an event of the node is of this process
abbrev pub is_of : ℕ → Event Listing → Bool
is_of pid e = touches_process pid (touch_of e)

-- whether an event waits while this process is out
abbrev pub is_busy : ℕ → DebugEvent Listing → Bool
is_busy pid (NodeEvent event) = is_of pid event
is_busy pid (StepOne at) = at == pid
is_busy pid _ = false
