-- A journal with its capacity, and its entries. (This node's own.)
use Rattle.std.specs.Prelude.{◌≡◌, ℕ, ◌-◌, List, [], ◌∷◌, length, Bool, true, false, not, ◌||◌, Option, Ok, Err, is_ok}
use Rattle.beam_machine.specs.declared.debug.DebugEvent.{DebugEvent}
use Rattle.beam_machine.specs.declared.debug.DebugReply.{DebugReply}
use Rattle.beam_machine.specs.declared.event.Reply.TheVariants.{Done}
use Rattle.beam_machine.specs.Prelude.{Debugged, DebugAnswer, debug_next, undisturbed, debug_cut_event, is_quiet_debug_event, Entry, SentEvent, empty, View}
use Rattle.beam_machine.specs.declared.debug.DebugReply.TheVariants.{Node}
use Rattle.beam_model.specs.Prelude.{Listing}

-- what callers see of a journal
pub record Journal : Type 0 where
  pub entries : List Entry
  pub capacity : ℕ  -- how many more entries can be made without memory
  pub limit : ℕ  -- how many entries it can have

-- what callers see of the journal of a node, of which entries can leave memory
pub record NodeJournal : Type 0 where
  pub entries : List Entry  -- all of them
  pub drained : ℕ  -- how many of them have left memory: the first ones
  pub capacity : ℕ  -- how many more entries can be made without memory
  pub limit : ℕ  -- how many entries can be in memory

-- how many of these entries are in memory, where the first `drained` of them have left it
abbrev pub in_memory : List Entry → ℕ → ℕ
in_memory entries drained = length entries - drained

-- the greatest limit
abbrev pub most_entries : ℕ
most_entries = 16777216

-- in this state the node accepts the event with this reply, which may say that an allocation failure cut it
abbrev pub Accepts : Debugged → DebugEvent Listing → DebugReply View → Type 0
Accepts d event reply = (debug_next d (debug_cut_event event (Ok reply))).answer ≡ Ok reply

-- the event as its reply cuts it, the seat that sent it, and the reply
abbrev pub entry_of : DebugEvent Listing → Option ℕ → DebugReply View → Entry
entry_of event seat reply = record { event = debug_cut_event event (Ok reply); seat = seat; reply = reply }

-- in this state the node accepts the event
abbrev pub Accepted : Debugged → DebugEvent Listing → Type 0
Accepted d event = is_ok (debug_next d event).answer ≡ true

-- whether one of these events, from a state on, may take memory where it stands
abbrev pub takes_memory : Debugged → List (DebugEvent Listing) → Bool
takes_memory d [] = false
takes_memory d (event ∷ rest) = not (is_quiet_debug_event d event) || takes_memory (debug_next d event).state rest

-- ---- the entries of which all but the replies is stored

-- the reply in an answer; for a refusal, which has none, a reply that is never used
abbrev pub reply_in : DebugAnswer → DebugReply View
reply_in (Ok reply) = reply
reply_in (Err refusal) = Node Done

-- the entries of the events that were sent from a state on, with the replies that they get
abbrev pub answered_from : Debugged → List SentEvent → List Entry
answered_from d [] = []
answered_from d (s ∷ rest) =
    record { event = s.event; seat = s.seat; reply = reply_in (debug_next d s.event).answer } ∷ answered_from (debug_next d s.event).state rest

abbrev pub entries_of : List SentEvent → List Entry
entries_of = answered_from (undisturbed empty)
