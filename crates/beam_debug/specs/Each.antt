-- Statements of each event of a list, with its answer. (This node's own.)
use Rattle.std.specs.Prelude.{List, [], ◌∷◌}
use Rattle.beam_model.specs.Prelude.{Listing}
use Rattle.beam_machine.specs.declared.debug.DebugEvent.{DebugEvent}
use Rattle.beam_machine.specs.Prelude.{Debugged, DebugAnswer, DebugLacksMemory, debug_after}

-- an event is refused memory only where it may need some; the state after it doesn't matter
abbrev pub LacksMemory : Debugged → DebugEvent Listing → DebugAnswer → Debugged → Type 0
LacksMemory old event answer new = DebugLacksMemory old event answer

-- a statement holds of each event of a list, with its answer, in the state at which the event comes
abbrev pub Each : (Debugged → DebugEvent Listing → DebugAnswer → Debugged → Type 0) → Debugged → List (DebugEvent Listing) → List DebugAnswer → Type 0
Each P d (event ∷ events) (answer ∷ answers) = P d event answer (debug_after d event answer) × Each P (debug_after d event answer) events answers
Each P d [] answers = Unit {0}
Each P d events [] = Unit {0}
