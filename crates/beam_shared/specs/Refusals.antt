-- Which calls of a shared node are refused, and why. (This node's own.)
use Rattle.std.specs.Prelude.{◌≡◌, ◌≢◌, ℕ, ◌-◌, ◌^◌, ◌||◌, Bool, true, false, if◌then◌else◌, List, [], ◌∷◌, ◌++◌, length, Option, Some, None, is_some, Err}
use Rattle.std.specs.List.{list_any}
use Rattle.beam_model.specs.Prelude.{Listing}
use Rattle.beam_machine.specs.declared.debug.DebugEvent.{DebugEvent}
use Rattle.beam_machine.specs.declared.event.Refused.TheVariants.{NoMemory, NoProcess, NotReady, Stopped, TooMany}
use Rattle.beam_machine.specs.Prelude.{Debugged, debug_next, is_among, Process, is_running, live_process}
use Rattle.beam_laws.specs.Prelude.{is_busy}
use Rattle.beam_journal.specs.Entering.{in_memory}
use Rattle.beam_receipts.specs.declared.refusal.Refusal.{Refusal}
use Rattle.beam_receipts.specs.declared.refusal.Refusal.TheVariants.{Node as OfNode, Busy, JournalFull}
use Rattle.beam_receipts.specs.Receipts.{History, RefusedCommand, SeatHistory}
use Rattle.beam_shared.specs.Node.{Node, CheckedOut, serial_of, has_any, has_incoming}

-- ---- checkouts

-- the number of checkouts that a node can make
abbrev pub most_checkouts : ℕ
most_checkouts = 2 ^ 64 - 1

-- why a process can't be checked out: it was never started or has ended; it is checked out; it is held; it waits, and no signal is in
-- transit to it
abbrev pub refusal_in : Debugged → List CheckedOut → ℕ → Option Process → Option Refusal
refusal_in d checked_out pid None = Some (OfNode NoProcess)
refusal_in d checked_out pid (Some p) =
    if is_some (serial_of pid checked_out) then Some Busy
    else if is_among pid d.held then Some (OfNode Stopped)
    else if is_running p.status || has_any p.transit then None
    else Some (OfNode NotReady)

abbrev pub refusal_of : Debugged → List CheckedOut → ℕ → Option Refusal
refusal_of d checked_out pid = refusal_in d checked_out pid (live_process d.node.processes pid)

abbrev pub why_not : Node → ℕ → Option Refusal
why_not n pid = refusal_of n.state n.checked_out pid

-- why a checkout is refused. A process that may be checked out isn't if a delivery is to be entered in a full journal, if memory is
-- refused, or if all numbers of checkouts were given
abbrev pub RefusesCheckout : Node → ℕ → Refusal → Type 0
RefusesCheckout n pid JournalFull = (why_not n pid ≡ None) × (has_incoming n pid ≡ true) × (in_memory n.journal n.drained ≡ n.limit)
RefusesCheckout n pid (OfNode NoMemory) = why_not n pid ≡ None
RefusesCheckout n pid (OfNode TooMany) = (why_not n pid ≡ None) × (length n.handed ≡ most_checkouts)
RefusesCheckout n pid refusal = why_not n pid ≡ Some refusal

-- ---- commands

-- whether an event must wait: it is a process's own, and the process is checked out
abbrev pub must_wait : List CheckedOut → DebugEvent Listing → Bool
must_wait checked_out event = list_any (λ o. is_busy o.pid event) checked_out

-- why a command is refused; the answer may be `NoMemory` in place of the node's
abbrev pub RefusesCommand : Node → DebugEvent Listing → Refusal → Type 0
RefusesCommand n event JournalFull = in_memory n.journal n.drained ≡ n.limit
RefusesCommand n event Busy = (in_memory n.journal n.drained ≢ n.limit) × (must_wait n.checked_out event ≡ true)
RefusesCommand n event (OfNode NoMemory) = (in_memory n.journal n.drained ≢ n.limit) × (must_wait n.checked_out event ≡ false)
RefusesCommand n event (OfNode refused) =
    (in_memory n.journal n.drained ≢ n.limit) × (must_wait n.checked_out event ≡ false) × ((debug_next n.state event).answer ≡ Err refused)

-- ---- what a seat notes of a refusal

-- a seat's command that is refused for this reason, after all that is known of the node, where the first `drained` entries have left memory
abbrev pub refused_now : History → ℕ → SeatHistory → DebugEvent Listing → Refusal → RefusedCommand
refused_now known drained s event refusal = record {
  event = event;
  refusal = refusal;
  entered = length known.journal;
  accepted = length s.kept;
  moves = length known.moves;
  drained = drained;
}

-- a seat's command that this node refuses for this reason
abbrev pub refused_command : Node → SeatHistory → DebugEvent Listing → Refusal → RefusedCommand
refused_command n s event refusal = record {
  event = event;
  refusal = refusal;
  entered = length n.journal;
  accepted = length s.kept;
  moves = length n.moves;
  drained = n.drained;
}

-- a seat whose command this node refused
abbrev pub with_refused : Node → DebugEvent Listing → Refusal → SeatHistory → SeatHistory
with_refused n event refusal s = record s { refused = s.refused ++ refused_command n s event refusal ∷ [] }
