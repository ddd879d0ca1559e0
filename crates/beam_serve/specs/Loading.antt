-- The code and the process that a node begins with, as commands of a seat. (This node's own.)
use Rattle.std.specs.Prelude.{◌≡◌, ◌++◌, ◌∷◌, [], ⊤, ℕ, List, map, Option, Some, None}
use Rattle.std.specs.Borrow.{Bor}
use Rattle.beam_model.specs.Prelude.{Listing}
use Rattle.beam_machine.specs.declared.command.Response.{Response}
use Rattle.beam_machine.specs.declared.command.Response.TheVariants as response
use Rattle.beam_machine.specs.declared.debug.DebugEvent.{DebugEvent}
use Rattle.beam_machine.specs.declared.debug.DebugEvent.TheVariants.{Node}
use Rattle.beam_machine.specs.declared.debug.DebugReply.{DebugReply}
use Rattle.beam_machine.specs.declared.event.Event.TheVariants.{Load, Spawn}
use Rattle.beam_machine.specs.Prelude.{View}
use Rattle.beam_receipts.specs.Receipts.{SeatHistory}
use Rattle.beam_sched.specs.CommandAnswers.{with_kept}
use Rattle.beam_tools.specs.Prelude.{AreFilesOf, Contents}
use Rattle.beam_tools.specs.declared.line.Start.{Start}

-- the texts behind references
abbrev pub texts : List (Bor (List ℕ)) → List (List ℕ)
texts = map (λ s. s.now)

-- a response that isn't a refusal
abbrev pub IsReply : Response → Type 0
IsReply (response.Refused refused) = ⊥
IsReply response.Busy = ⊥
IsReply response.JournalFull = ⊥
IsReply _ = ⊤

-- the seat keeps one event more, with some reply
abbrev pub Keeps : SeatHistory → DebugEvent Listing → SeatHistory → Type 0
Keeps s event t = (reply : DebugReply View) × (t ≡ with_kept s event reply)

-- the seat keeps these events more, in their order
abbrev pub KeepsAll : SeatHistory → List (DebugEvent Listing) → SeatHistory → Type 0
KeepsAll s [] t = t ≡ s
KeepsAll s (event ∷ events) t = (next : SeatHistory) × Keeps s event next × KeepsAll next events t

abbrev pub load_of : Listing → DebugEvent Listing
load_of l = Node (Load l)

-- the event that starts a process with a function, without arguments
abbrev pub starts_of : Option (Start) → List (DebugEvent Listing)
starts_of None = []
starts_of (Some start) = Node (Spawn start.module.now start.function.now []) ∷ []

-- the seat keeps a load of each of these files, in their order
pub record LoadsFiles (files : Contents) (names : List (List ℕ)) (s : SeatHistory) (t : SeatHistory) : Type 0 where
  pub listings : List Listing
  pub are_of : AreFilesOf files names listings
  pub kept : KeepsAll s (map load_of listings) t

-- the seat keeps a load of each of these files, in their order, and then the start of the process, if there is to be one
pub record Begins (files : Contents) (names : List (List ℕ)) (start : Option Start) (s : SeatHistory) (t : SeatHistory) : Type 0 where
  pub listings : List Listing
  pub are_of : AreFilesOf files names listings
  pub kept : KeepsAll s (map load_of listings ++ starts_of start) t
