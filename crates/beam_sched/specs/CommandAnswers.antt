-- The answer of a node that threads share to a command of a seat. (This node's own.)
use Rattle.std.specs.Prelude.{◌≡◌, ◌≢◌, ◌<◌, ◌++◌, ◌∷◌, [], false, length, Some, Result, Ok, Err}
use Rattle.beam_model.specs.Prelude.{Listing}
use Rattle.beam_machine.specs.declared.debug.DebugEvent.{DebugEvent}
use Rattle.beam_machine.specs.declared.debug.DebugReply.{DebugReply}
use Rattle.beam_machine.specs.Prelude.{IsLawful, replay, View}
use Rattle.beam_debug.specs.declared.outcome.Outcome.{Outcome}
use Rattle.beam_debug.specs.Prelude.{reply_of, DebugLoudly}
use Rattle.beam_journal.specs.Entering.{Accepts, entry_of, in_memory}
use Rattle.beam_receipts.specs.Receipts.{SeatHistory, of_seat}
use Rattle.beam_receipts.specs.declared.refusal.Refusal.{Refusal}
use Rattle.beam_shared.specs.Prelude.{Node, accepted, RefusesCommand, must_wait, with_refused, AddUp, AreOfSeats}

-- an answer, as a reply of the definitions
abbrev pub answer_of : Result Outcome Refusal → Result (DebugReply View) Refusal
answer_of (Ok outcome) = Ok (reply_of outcome)
answer_of (Err refusal) = Err refusal

-- a seat that kept one more event, with its reply
abbrev pub with_kept : SeatHistory → DebugEvent Listing → DebugReply View → SeatHistory
with_kept s event reply = record s { kept = s.kept ++ entry_of event (Some s.number) reply ∷ [] }

-- the node accepts the command with this reply, and enters it
pub record IsAccepted (n : Node) (s : SeatHistory) (event : DebugEvent Listing) (reply : DebugReply View) (new : Node) (t : SeatHistory) : Type 0 where
  pub accepts : Accepts n.state event reply
  pub loud : DebugLoudly n.state event (Ok reply) new.state
  pub may : (in_memory n.journal n.drained ≢ n.limit) × (must_wait n.checked_out event ≡ false)
  pub node : new ≡ accepted n event s.number reply
  pub seat : t ≡ with_kept s event reply

-- the node refuses the command and stays as it is, and the seat notes that
pub record IsRefused (n : Node) (s : SeatHistory) (event : DebugEvent Listing) (refusal : Refusal) (new : Node) (t : SeatHistory) : Type 0 where
  pub why : RefusesCommand n event refusal
  pub node : new ≡ n
  pub seat : t ≡ with_refused n event refusal s

abbrev pub IsAnswered : Node → SeatHistory → DebugEvent Listing → Result (DebugReply View) Refusal → Node → SeatHistory → Type 0
IsAnswered n s event (Ok reply) new t = IsAccepted n s event reply new t
IsAnswered n s event (Err refusal) new t = IsRefused n s event refusal new t

-- A command of a seat gets this answer from a node that stays unnamed, since it is under its lock: the node's journal is lawful and replays
-- to its state; each of its commands is of a seat that the node gave, and the seats' commands add up to all of them; the seat keeps exactly
-- its entries of the seat's number, and the journal's limit is the one that the seat has. Closing the node ties what all seats keep and
-- note, refusals too, to one journal.
pub record CommandAnswered (s : SeatHistory) (event : DebugEvent Listing) (answer : Result (DebugReply View) Refusal) (t : SeatHistory) : Type 0 where
  pub node : Node
  pub new : Node
  pub lawful : IsLawful node.journal
  pub replays : replay node.journal ≡ node.state
  pub of_seats : AreOfSeats node
  pub add_up : AddUp node
  pub given : s.number < node.seats
  pub limit : s.limit ≡ node.limit
  pub kept : s.kept ≡ of_seat s.number node.journal
  pub answered : IsAnswered node s event answer new t
