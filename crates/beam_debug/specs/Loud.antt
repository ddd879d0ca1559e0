-- Where an allocation failure ends or refuses rows of a node with a debugger. (This node's own.)
use Rattle.std.specs.Prelude.{nat_lt, IsTrue, Ok, Err}
use Rattle.beam_machine.specs.declared.debug.DebugEvent.{DebugEvent}
use Rattle.beam_machine.specs.declared.debug.DebugEvent.TheVariants.{StepOne, Node as NodeEvent}
use Rattle.beam_machine.specs.declared.event.Event.TheVariants.{Steps}
use Rattle.beam_machine.specs.declared.event.Refused.TheVariants.{NoMemory}
use Rattle.beam_machine.specs.declared.event.Reply.TheVariants.{Ran}
use Rattle.beam_machine.specs.declared.event.Then.TheVariants.{GoesOn}
use Rattle.beam_machine.specs.Prelude.{Debugged, DebugAnswer, IsLoud, process_of}
use Rattle.beam_machine.specs.declared.debug.DebugReply.TheVariants.{Node}
use Rattle.beam_model.specs.Prelude.{Listing}

-- a quiet row is refused no memory: neither as the first row of an event, nor as the next after some
abbrev pub DebugLoudly : Debugged → DebugEvent Listing → DebugAnswer → Debugged → Type 0
DebugLoudly old (NodeEvent (Steps pid n)) (Err NoMemory) new = IsLoud old.node.code (process_of old.node.processes pid)
DebugLoudly old (NodeEvent (Steps pid n)) (Ok (Node (Ran count GoesOn))) new =
    IsTrue (nat_lt count n) → IsLoud new.node.code (process_of new.node.processes pid)
DebugLoudly old (StepOne pid) (Err NoMemory) new = IsLoud old.node.code (process_of old.node.processes pid)
DebugLoudly old event answer new = Unit {0}
