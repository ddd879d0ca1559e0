-- What a desk with a seat of a shared node answers. (This node's own.)
use Rattle.std.specs.Prelude.{◌≡◌, Result, Ok, Err}
use Rattle.beam_machine.specs.declared.command.Response.{Response}
use Rattle.beam_machine.specs.declared.debug.DebugEvent.{DebugEvent}
use Rattle.beam_machine.specs.declared.debug.DebugReply.{DebugReply}
use Rattle.beam_machine.specs.Prelude.{response_of, View}
use Rattle.beam_machine.specs.declared.command.Response.TheVariants as response
use Rattle.beam_model.specs.Prelude.{Listing}
use Rattle.beam_receipts.specs.Receipts.{SeatHistory}
use Rattle.beam_receipts.specs.declared.refusal.Refusal.{Refusal}
use Rattle.beam_receipts.specs.declared.refusal.Refusal.TheVariants.{Node as OfNode, Busy, JournalFull}
use Rattle.beam_sched.specs.CommandAnswers.{CommandAnswered}

-- the response to a refused command
abbrev pub response_to : Refusal → Response
response_to (OfNode refused) = response.Refused refused
response_to Busy = response.Busy
response_to JournalFull = response.JournalFull

-- the response to a command, by the answer of a shared node
abbrev pub response_by : Result (DebugReply View) Refusal → Response
response_by (Ok reply) = response_of (Ok reply)
response_by (Err refusal) = response_to refusal

-- A shared node, which stays unnamed since it is under its lock, gives this answer to the event; if it accepts the event, the seat keeps it
-- with its reply. The seats' entries are those of a lawful journal, so a reply that a seat keeps is the node's.
pub record SeatAnswers (s : SeatHistory) (event : DebugEvent Listing) (r : Response) (t : SeatHistory) : Type 0 where
  pub answer : Result (DebugReply View) Refusal
  pub command_answered : CommandAnswered s event answer t
  pub is_response : r ≡ response_by answer
