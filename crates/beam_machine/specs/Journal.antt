-- The journal: the events that the node accepted, in their order, with its replies. (This node's own.)
use Rattle.std.specs.Prelude.{ℕ, ◌≡◌, List, map, Option, Ok}
use Rattle.beam_machine.specs.declared.debug.DebugEvent.{DebugEvent}
use Rattle.beam_machine.specs.declared.debug.DebugReply.{DebugReply}
use Rattle.beam_model.specs.Prelude.{Listing}
use Rattle.beam_machine.specs.Debug.{Debugged, debug_run, undisturbed}
use Rattle.beam_machine.specs.State.{empty}
use Rattle.beam_machine.specs.View.{View}

-- an event, the seat that sent it, and the reply
pub record Entry : Type 0 where
  pub event : DebugEvent Listing
  pub seat : Option ℕ
  pub reply : DebugReply View

-- an entry without its reply, which the events before it determine
pub record SentEvent : Type 0 where
  pub event : DebugEvent Listing
  pub seat : Option ℕ

abbrev pub sent_event_of : Entry → SentEvent
sent_event_of e = record { event = e.event; seat = e.seat }

-- run from the empty node on, the events give these replies, and none is refused
abbrev pub IsLawful : List Entry → Type 0
IsLawful entries = (debug_run (undisturbed empty) (map (λ e. e.event) entries)).answers ≡ map (λ e. Ok e.reply) entries

-- the state that the events lead to
abbrev pub replay : List Entry → Debugged
replay entries = (debug_run (undisturbed empty) (map (λ e. e.event) entries)).state
