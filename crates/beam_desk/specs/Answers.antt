-- The answers of a desk that has a node. (This node's own.)
use Rattle.std.specs.Prelude.{◌≡◌}
use Rattle.beam_model.specs.Prelude.{Listing}
use Rattle.beam_machine.specs.declared.command.Response.{Response}
use Rattle.beam_machine.specs.declared.debug.DebugEvent.{DebugEvent}
use Rattle.beam_machine.specs.Prelude.{Debugged, DebugAnswer, response_of, DebugAnswers, DebugLacksMemory}
use Rattle.beam_debug.specs.Prelude.{DebugLoudly}

-- an event is answered as the node with its debugger answers it; memory is refused only to events that may need some
pub record NodeAnswers (d : Debugged) (event : DebugEvent Listing) (r : Response) (new : Debugged) : Type 0 where
  pub answer : DebugAnswer
  pub answers : DebugAnswers d event answer new
  pub memory : DebugLacksMemory d event answer
  pub loud : DebugLoudly d event answer new
  pub is_reply : r ≡ response_of answer
