-- What a node knows of its journal, its seats and its checkouts, and what a seat and a ticket know of it. (This node's own.)
use Rattle.std.specs.Prelude.{ℕ, zero, suc, ◌+◌, ◌<◌, ◌==◌, not, if◌then◌else◌, Bool, true, false, List, [], ◌∷◌, ◌++◌, filter, All, Option, Some, None, IfSome}
use Rattle.atomic_table.specs.Seated.{TableId}
use Rattle.beam_machine.specs.declared.debug.DebugEvent.{DebugEvent}
use Rattle.beam_machine.specs.declared.debug.DebugEvent.TheVariants.{Resume}
use Rattle.beam_machine.specs.declared.event.Reply.TheVariants.{Done}
use Rattle.beam_machine.specs.Prelude.{Entry, started}
use Rattle.beam_machine.specs.declared.debug.DebugReply.TheVariants.{Node}
use Rattle.beam_laws.specs.Prelude.{Origin}
use Rattle.beam_model.specs.Prelude.{Listing}
use Rattle.beam_receipts.specs.declared.refusal.Refusal.{Refusal}
use Rattle.beam_receipts.specs.declared.refusal.Refusal.TheVariants.{JournalFull}

-- a process is checked out, or checked in
pub record Move : Type 0 where
  pub pid : ℕ
  pub goes_out : Bool

-- all entries of the journal, how many seats were given, all checkouts, which processes were checked out and in, in this order, and how
-- many entries the journal had whenever its entries left memory, the last time first
pub record History : Type 0 where
  pub journal : List Entry
  pub given : ℕ
  pub checkouts : List Origin
  pub moves : List Move
  pub drains : List ℕ

abbrev pub empty_history : History
empty_history = record { journal = []; given = 0; checkouts = []; moves = []; drains = [] }

-- a command that was refused: its event and why; and how many entries the journal had then, how many of them were of the seat that sent
-- the command, how often processes had been checked out and in, and how many of the journal's entries had left memory
pub record RefusedCommand : Type 0 where
  pub event : DebugEvent Listing
  pub refusal : Refusal
  pub entered : ℕ
  pub accepted : ℕ
  pub moves : ℕ
  pub drained : ℕ

-- a seat's number, how many entries of its node's journal can be in memory, the seat's entries, and its commands that were refused, each in
-- their order
pub record SeatHistory : Type 0 where
  pub number : ℕ
  pub limit : ℕ
  pub kept : List Entry
  pub refused : List RefusedCommand

-- a checkout's number, and its origin
pub record Checkout : Type 0 where
  pub serial : ℕ
  pub origin : Origin

-- ---- which processes are checked out

abbrev pub moved_out : ℕ → Move
moved_out pid = record { pid = pid; goes_out = true }

abbrev pub moved_in : ℕ → Move
moved_in pid = record { pid = pid; goes_out = false }

-- the processes that are checked out, after one more was checked out or in
abbrev pub after_move : List ℕ → Move → List ℕ
after_move pids m = if m.goes_out then pids ++ m.pid ∷ [] else filter (λ pid. not (pid == m.pid)) pids

abbrev pub after_moves : List ℕ → List Move → List ℕ
after_moves pids [] = pids
after_moves pids (m ∷ rest) = after_moves (after_move pids m) rest

-- ---- entries of seats

abbrev pub is_number : ℕ → Option ℕ → Bool
is_number n None = false
is_number n (Some m) = m == n

abbrev pub is_of : ℕ → Entry → Bool
is_of n e = is_number n e.seat

-- the entries of a seat, in their order
abbrev pub of_seat : ℕ → List Entry → List Entry
of_seat n entries = filter (is_of n) entries

-- each entry of a seat is of one of the first `given` seats
abbrev pub AreOfGiven : ℕ → List Entry → Type 0
AreOfGiven given entries = All (λ e. IfSome e.seat (λ n. n < given)) entries

-- f 0 + .. + f (n - 1)
abbrev pub sum_below : (ℕ → ℕ) → ℕ → ℕ
sum_below f zero = 0
sum_below f (suc n) = sum_below f n + f n

-- the name of no table
abbrev pub no_table : TableId
no_table = record { words = 0; slots = 0; views_name = 0; atom = 0; block = 0; offset = 0; slot_names = [] }

-- an entry, a refused command and an origin, where a call names no other
abbrev pub no_entry : Entry
no_entry = record { event = Resume 0; seat = None; reply = Node Done }

abbrev pub no_refused_command : RefusedCommand
no_refused_command = record { event = Resume 0; refusal = JournalFull; entered = 0; accepted = 0; moves = 0; drained = 0 }

abbrev pub no_origin : Origin
no_origin = record { pid = 0; process = started 0 [] [] []; passes = false; code = []; spots = [] }

abbrev pub no_checkout : Checkout
no_checkout = record { serial = 0; origin = no_origin }
