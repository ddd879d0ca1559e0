-- The node with its debugger after a list of events, where memory may be refused. (This node's own.)
use Rattle.std.specs.Prelude.{◌≡◌, Bool, true, false, ◌||◌, List, [], ◌∷◌, ◌++◌, Ok, Err, is_ok, IsErrOf}
use Rattle.beam_machine.specs.declared.debug.DebugEvent.{DebugEvent}
use Rattle.beam_machine.specs.declared.debug.DebugEvent.TheVariants.{Node as NodeEvent, ClearBreak}
use Rattle.beam_machine.specs.declared.debug.DebugReply.TheVariants.{Node}
use Rattle.beam_machine.specs.declared.event.Event.TheVariants.{Steps}
use Rattle.beam_machine.specs.declared.event.Refused.TheVariants.{NoMemory}
use Rattle.beam_machine.specs.declared.event.Reply.TheVariants.{Ran}
use Rattle.beam_model.specs.Prelude.{Listing}
use Rattle.beam_machine.specs.Debug.{Debugged, DebugAnswer, debug_next}
use Rattle.beam_machine.specs.Quiet.{is_quiet_event, is_upgrade}
use Rattle.beam_machine.specs.Run.{effective_rows}

-- the event that took place where memory was refused in the middle of it: fewer rows
abbrev pub debug_cut_event : DebugEvent Listing → DebugAnswer → DebugEvent Listing
debug_cut_event (NodeEvent (Steps pid n)) (Ok (Node (Ran count after))) = NodeEvent (Steps pid (effective_rows n count after))
debug_cut_event event answer = event

-- a possible answer to an event: that of debug_next, for the event or for its rows that were done; or NoMemory, and nothing changed
abbrev pub DebugAnswers : Debugged → DebugEvent Listing → DebugAnswer → Debugged → Type 0
DebugAnswers old event (Err NoMemory) new = new ≡ old
DebugAnswers old event answer new = debug_next old (debug_cut_event event answer) ≡ record { answer = answer; state = new }

-- the state after an event that was answered so
abbrev pub debug_after : Debugged → DebugEvent Listing → DebugAnswer → Debugged
debug_after d event (Err NoMemory) = d
debug_after d event answer = (debug_next d (debug_cut_event event answer)).state

-- an event that was refused for memory doesn't stand in the list
abbrev pub effective_debug_event : DebugEvent Listing → DebugAnswer → List (DebugEvent Listing)
effective_debug_event event (Err NoMemory) = []
effective_debug_event event answer = debug_cut_event event answer ∷ []

abbrev pub effective_debug_answer : DebugAnswer → List DebugAnswer
effective_debug_answer (Err NoMemory) = []
effective_debug_answer answer = answer ∷ []

-- the events that took place: without those that were refused for memory, and each with as many rows as its answer has
abbrev pub effective_debug_events : List (DebugEvent Listing) → List DebugAnswer → List (DebugEvent Listing)
effective_debug_events (event ∷ events) (answer ∷ answers) = effective_debug_event event answer ++ effective_debug_events events answers
effective_debug_events [] answers = []
effective_debug_events events [] = []

-- the answers without those for want of memory
abbrev pub effective_debug_answers : List DebugAnswer → List DebugAnswer
effective_debug_answers [] = []
effective_debug_answers (answer ∷ answers) = effective_debug_answer answer ++ effective_debug_answers answers

-- the events that take no memory: the node's quiet events, and clearing a break spot
abbrev pub is_quiet_debug_event : Debugged → DebugEvent Listing → Bool
is_quiet_debug_event d (NodeEvent event) = is_quiet_event d.node event
is_quiet_debug_event d (ClearBreak spot) = true
is_quiet_debug_event d _ = false

abbrev pub is_debug_upgrade : DebugEvent Listing → Bool
is_debug_upgrade (NodeEvent event) = is_upgrade event
is_debug_upgrade _ = false

-- NoMemory answers only events that may take memory and have no other refusal, and upgrade lists
abbrev pub DebugLacksMemory : Debugged → DebugEvent Listing → DebugAnswer → Type 0
DebugLacksMemory d event answer = IsErrOf answer NoMemory → (is_quiet_debug_event d event ≡ false) × ((is_debug_upgrade event || is_ok (debug_next d event).answer) ≡ true)
