-- A node is given events that were recorded, and enters them again. (This node's own.)
use Rattle.std.specs.Prelude.{◌≡◌, ◌≢◌, ◌≤◌, ℕ, List, [], ◌∷◌, ◌++◌, length, map, Option, Some, None, Ok, ⊤}
use Rattle.std.specs.Iterator.{Yields, YieldsThen}
use Rattle.std.specs.List.{range_with_len}
use Rattle.beam_journal.specs.Entering.{entry_of}
use Rattle.beam_machine.specs.declared.debug.DebugEvent.{DebugEvent}
use Rattle.beam_machine.specs.declared.debug.DebugReply.{DebugReply}
use Rattle.beam_machine.specs.declared.event.Refused.TheVariants.{NoMemory as OutOfMemory}
use Rattle.beam_machine.specs.Prelude.{SentEvent, View, debug_after, sent_event_of}
use Rattle.beam_model.specs.Prelude.{Listing}
use Rattle.beam_receipts.specs.Receipts.{SeatHistory}
use Rattle.beam_receipts.specs.declared.refusal.Refusal.TheVariants.{Node as OfNode}
use Rattle.beam_shared.specs.Node.{most_seats}
use Rattle.beam_shared.specs.Prelude.{Node, RefusesCommand}
use Rattle.beam_recall.specs.declared.error.RecallError.{RecallError}
use Rattle.beam_recall.specs.declared.error.RecallError.TheVariants.{Refused, TooManySeats, NoMemory, Unread}

-- the seats are the first `given` ones, in the order of their numbers
abbrev pub AreNumbered : ℕ → List SeatHistory → Type 0
AreNumbered given seats = map (λ s. s.number) seats ≡ range_with_len 0 given

-- the journal has these events more
abbrev pub Enters : Node → List SentEvent → Node → Type 0
Enters old sent new = map sent_event_of new.journal ≡ map sent_event_of old.journal ++ sent

-- the node after it accepted an event of this seat, or of none, with this reply
abbrev pub accepted_from : Node → DebugEvent Listing → Option ℕ → DebugReply View → Node
accepted_from n event seat reply = record n {
  state = debug_after n.state event (Ok reply);
  journal = n.journal ++ entry_of event seat reply ∷ [];
}

-- who is and was checked out, which entries have left memory, and how many can be in memory, are as before
abbrev pub HasSameCheckouts : Node → Node → Type 0
HasSameCheckouts old new =
    (new.handed ≡ old.handed) × (new.checked_out ≡ old.checked_out) × (new.moves ≡ old.moves) × (new.limit ≡ old.limit)
    × (new.drained ≡ old.drained) × (new.drains ≡ old.drains)

-- why this node, which has all that was recorded before the event, doesn't enter the event
abbrev pub Hinders : {F : Type 0} → Node → SentEvent → RecallError F → Type 0
Hinders n event (Refused number refusal) = (number ≡ length n.journal) × (refusal ≢ OfNode OutOfMemory) × RefusesCommand n event.event refusal
Hinders n event (TooManySeats number) = (number ≡ length n.journal) × ((seat : ℕ) × (event.seat ≡ Some seat) × (most_seats ≤ seat))
Hinders n event NoMemory = ⊤
Hinders n event (Unread fault) = ⊥

-- ---- events that come from a source, one after another; `gives` is what its next event is

module _ {S : Type 0} (gives : S → Option SentEvent → S → Type 0) where
  -- the source gave these events and was left so, and the node entered just these
  abbrev pub EntersThose : S → Node → S → Node → Type 0
  EntersThose s old t new = (sent : List SentEvent) × Yields gives s sent t × Enters old sent new

  -- the source gave all that it had, and the node entered just that
  abbrev pub EntersAll : S → Node → S → Node → Type 0
  EntersAll s old t new = (sent : List SentEvent) × YieldsThen gives s sent None t × Enters old sent new

  -- the source gave this event last, and the node entered just those before it
  abbrev pub EntersAllBefore : S → Node → SentEvent → S → Node → Type 0
  EntersAllBefore s old event t new = (sent : List SentEvent) × YieldsThen gives s sent (Some event) t × Enters old sent new

  -- why the node didn't enter all
  abbrev pub Stops : {F : Type 0} → S → Node → RecallError F → S → Node → Type 0
  Stops s old (Unread fault) t new = (middle : S) × EntersThose s old middle new
  Stops s old NoMemory t new = ⊤
  Stops s old error t new = (event : SentEvent) × EntersAllBefore s old event t new × Hinders new event error
