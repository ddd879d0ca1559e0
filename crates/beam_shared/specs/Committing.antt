-- Rows of a process that was checked out are committed: they take effect in the node, as one event of its journal. (This node's own.)
use Rattle.std.specs.Prelude.{◌≡◌, ◌≢◌, ◌≤◌, ℕ, ◌==◌, not, Bool, true, false, List, [], ◌∷◌, ◌++◌, filter, length, slice_get, Option, Some, None, is_some, Ok}
use Rattle.beam_machine.specs.declared.debug.DebugEvent.{DebugEvent}
use Rattle.beam_machine.specs.declared.debug.DebugReply.{DebugReply}
use Rattle.beam_machine.specs.declared.event.Event.TheVariants.{Steps}
use Rattle.beam_machine.specs.Prelude.{debug_next, Private, live_process, View}
use Rattle.beam_machine.specs.declared.debug.DebugEvent.TheVariants.{Node as NodeEvent}
use Rattle.beam_model.specs.Prelude.{Listing}
use Rattle.beam_laws.specs.Prelude.{Origin, slice_of, rows_of_event}
use Rattle.beam_core.specs.Installing.{AreQuiet}
use Rattle.beam_journal.specs.Entering.{in_memory}
use Rattle.beam_receipts.specs.Receipts.{moved_in}
use Rattle.beam_shared.specs.declared.drop_reason.DropReason.{DropReason}
use Rattle.beam_shared.specs.declared.drop_reason.DropReason.TheVariants.{Stranger, Gone, StaleCode, JournalFull, NoMemory}
use Rattle.beam_shared.specs.FinishedSlice.{CodeContext, FinishedSlice, context_of}
use Rattle.beam_shared.specs.Invariant.{context_in}
use Rattle.beam_shared.specs.Node.{Node, CheckedOut, serial_of}

-- the number of a drop reason
abbrev pub number_of : DropReason → ℕ
number_of StaleCode = 1
number_of Gone = 2
number_of Stranger = 3
number_of NoMemory = 4
number_of JournalFull = 5

-- the event as which rows of a process take effect
abbrev pub event_of : ℕ → Private → DebugEvent Listing
event_of pid rows = NodeEvent (Steps pid (rows_of_event rows))

abbrev pub is_serial : ℕ → Option ℕ → Bool
is_serial serial (Some of_out) = of_out == serial
is_serial serial None = false

-- whether the process is checked out by the checkout of number `serial`
abbrev pub is_open : Node → ℕ → ℕ → Bool
is_open n pid serial = is_serial serial (serial_of pid n.checked_out)

abbrev pub is_live : Node → ℕ → Bool
is_live n pid = is_some (live_process n.state.node.processes pid)

-- the process is checked out by that checkout and hasn't ended, and code and break spots are those of the checkout
abbrev pub MayCommit : Node → ℕ → ℕ → CodeContext → Type 0
MayCommit n pid serial context = (is_open n pid serial ≡ true) × (is_live n pid ≡ true) × (context_in n.state ≡ context)

-- why rows that may be committed can't be entered
abbrev pub DropsEntry : Node → Private → DropReason → Type 0
DropsEntry n rows JournalFull = in_memory n.journal n.drained ≡ n.limit
DropsEntry n rows NoMemory = (in_memory n.journal n.drained ≢ n.limit) × (AreQuiet rows → ⊥)
DropsEntry n rows _ = ⊥

-- why rows don't take effect
abbrev pub DropsRows : Node → ℕ → ℕ → CodeContext → Private → DropReason → Type 0
DropsRows n pid serial context rows Stranger = is_open n pid serial ≡ false
DropsRows n pid serial context rows Gone = (is_open n pid serial ≡ true) × (is_live n pid ≡ false)
DropsRows n pid serial context rows StaleCode =
    (is_open n pid serial ≡ true) × (is_live n pid ≡ true) × (context_in n.state ≢ context)
DropsRows n pid serial context rows dropped =
    MayCommit n pid serial context × (rows_of_event rows ≢ 0) × DropsEntry n rows dropped

abbrev pub DropsFor : Node → FinishedSlice → DropReason → Type 0
DropsFor n f = DropsRows n f.origin.pid f.serial (context_of f.origin) f.rows

-- ---- the node after it

abbrev pub without_checkout : ℕ → List CheckedOut → List CheckedOut
without_checkout pid checked_out = filter (λ o. not (o.pid == pid)) checked_out

-- the node after a process was checked in, without its rows
abbrev pub checked_in : Node → ℕ → Node
checked_in n pid = record n { checked_out = without_checkout pid n.checked_out; moves = n.moves ++ moved_in pid ∷ [] }

-- the node after a process was checked in and its rows took effect, with this reply
abbrev pub advanced : Node → ℕ → Private → DebugReply View → Node
advanced n pid rows reply = record n {
  state = (debug_next n.state (event_of pid rows)).state;
  journal = n.journal ++ record { event = event_of pid rows; seat = None; reply = reply } ∷ [];
  checked_out = without_checkout pid n.checked_out;
  moves = n.moves ++ moved_in pid ∷ [];
}

-- rows took effect with this reply; where there are no rows, nothing is entered
abbrev pub Commits : Node → ℕ → Private → Option (DebugReply View) → Node → Type 0
Commits n pid rows None new = (rows_of_event rows ≡ 0) × (new ≡ checked_in n pid)
Commits n pid rows (Some reply) new =
    (rows_of_event rows ≢ 0) × (in_memory n.journal n.drained ≢ n.limit)
    × ((debug_next n.state (event_of pid rows)).answer ≡ Ok reply) × (new ≡ advanced n pid rows reply)

-- rows that are to be committed to a node, of the checkout of number `serial`, executed over this code and these break spots
pub record AreBack (n : Node) (pid : ℕ) (serial : ℕ) (context : CodeContext) (rows : Private) : Type 0 where
  pub origin : Origin
  pub handed : slice_get n.handed serial ≡ Some origin
  pub own : origin.pid ≡ pid
  pub over : context ≡ context_of origin
  pub limit : ℕ
  pub few : limit ≤ 4000
  pub done : rows ≡ slice_of origin limit
