-- Which processes an event may make runnable that weren't before: a table by event. (This node's own.)
use Rattle.std.specs.Prelude.{ℕ}
use Rattle.beam_machine.specs.declared.debug.DebugEvent.{DebugEvent}
use Rattle.beam_machine.specs.declared.event.Event.{Event}
use Rattle.beam_term.specs.Prelude.{TermValue, Terms, int_term, atom_term, reference_term, pid_term, nil_term, pair_term, tuple_term}
use Rattle.beam_machine.specs.declared.debug.DebugEvent.TheVariants as debugged
use Rattle.beam_machine.specs.declared.event.Event.TheVariants as event
use Rattle.beam_sched.specs.declared.made_runnable.MadeRunnable.{MadeRunnable}
use Rattle.beam_sched.specs.declared.made_runnable.MadeRunnable.TheVariants.{One, Started, Any, Nobody}

-- the receiver of a message: the process of a pid; a name may be that of any process
abbrev pub receiver_of : TermValue → MadeRunnable
receiver_of (pid_term node id serial creation) = One id
receiver_of (int_term n) = Any
receiver_of (atom_term text) = Any
receiver_of (reference_term node creation words) = Any
receiver_of nil_term = Any
receiver_of (pair_term head tail) = Any
receiver_of (tuple_term items) = Any

-- a change of code ends processes, whose monitors get DOWNs; so may each row that is executed; a clock that is set passes deadlines
abbrev pub made_runnable_by : {I : Type 0} → DebugEvent I → MadeRunnable
made_runnable_by (debugged.Node (event.Load image)) = Any
made_runnable_by (debugged.Node (event.LoadStrict image)) = Any
made_runnable_by (debugged.Node (event.AtomicLoad mode images)) = Any
made_runnable_by (debugged.Node (event.Delete name)) = Any
made_runnable_by (debugged.Node (event.SoftPurge name)) = Any
made_runnable_by (debugged.Node (event.Purge name)) = Any
made_runnable_by (debugged.Node (event.Versions name)) = Nobody
made_runnable_by (debugged.Node (event.Spawn name function arguments)) = Started
made_runnable_by (debugged.Node (event.Send to message)) = receiver_of to
made_runnable_by (debugged.Node (event.Steps pid rows)) = Any
made_runnable_by (debugged.Node (event.Deliver pid)) = One pid
made_runnable_by (debugged.Node (event.Clock now)) = Any
made_runnable_by (debugged.Node (event.Timeout pid)) = One pid
made_runnable_by (debugged.SetBreak spot) = Any
made_runnable_by (debugged.ClearBreak spot) = Any
made_runnable_by (debugged.Resume pid) = One pid
made_runnable_by (debugged.StepOne pid) = Any
made_runnable_by (debugged.Inspect pid) = Nobody
