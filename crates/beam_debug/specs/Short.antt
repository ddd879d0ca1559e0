-- Rows of a process in a turn that is to be short, which stop before a row that may take long. (This node's own.)
use Rattle.std.specs.Prelude.{◌≡◌, ℕ, Bool, List, Option, Some, None, Result, Ok, Err}
use Rattle.beam_machine.specs.declared.debug.DebugEvent.TheVariants.{Node as NodeEvent}
use Rattle.beam_machine.specs.declared.debug.DebugReply.TheVariants.{Node}
use Rattle.beam_machine.specs.declared.event.Event.TheVariants.{Steps}
use Rattle.beam_machine.specs.declared.event.Refused.{Refused}
use Rattle.beam_machine.specs.declared.event.Refused.TheVariants.{NoMemory}
use Rattle.beam_machine.specs.declared.event.Reply.TheVariants.{Ran}
use Rattle.beam_machine.specs.declared.event.Then.{Then}
use Rattle.beam_machine.specs.Prelude.{Debugged, DebugAnswers, State}
use Rattle.beam_model.specs.Prelude.{Place}
use Rattle.beam_core.specs.Halt.{HaltsAt}

-- `Some`: state and answer are those of a `Steps` of that count of rows; `None`: nothing changed; an error: memory was refused, and nothing
-- changed
abbrev pub ShortAnswers : Debugged → ℕ → Result (Option (ℕ × Then)) Refused → Debugged → Type 0
ShortAnswers old pid (Ok (Some (count, after))) new = DebugAnswers old (NodeEvent (Steps pid count)) (Ok (Node (Ran count after))) new
ShortAnswers old pid (Ok None) new = new ≡ old
ShortAnswers old pid (Err refusal) new = (refusal ≡ NoMemory) × (new ≡ old)

-- the same of the node alone, whose next row is that of none of these break spots
abbrev pub ShortHalts : List Place → Bool → ℕ → State → Result (Option (ℕ × Then)) Refused → State → Type 0
ShortHalts spots passes pid s (Ok (Some (count, after))) t = HaltsAt spots passes pid count s (Ok (count, Some after)) t
ShortHalts spots passes pid s (Ok None) t = t ≡ s
ShortHalts spots passes pid s (Err refusal) t = (refusal ≡ NoMemory) × (t ≡ s)
