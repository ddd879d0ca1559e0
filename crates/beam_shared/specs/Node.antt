-- A node that threads share, as it is under its lock. (This node's own.)
use Rattle.std.specs.Prelude.{ℕ, ◌==◌, not, if◌then◌else◌, Bool, true, false, List, [], ◌∷◌, ◌++◌, length, Option, Some, None, Ok}
use Rattle.beam_machine.specs.declared.debug.DebugEvent.{DebugEvent}
use Rattle.beam_machine.specs.declared.debug.DebugReply.{DebugReply}
use Rattle.beam_machine.specs.declared.event.Event.TheVariants.{Deliver}
use Rattle.beam_machine.specs.declared.event.Reply.TheVariants.{Done}
use Rattle.beam_machine.specs.declared.process.Signal.{Signal}
use Rattle.beam_machine.specs.Prelude.{Debugged, is_among, debug_next, undisturbed, debug_after, Entry, delivered, Process, empty, live_process, View}
use Rattle.beam_machine.specs.declared.debug.DebugEvent.TheVariants.{Node as NodeEvent}
use Rattle.beam_machine.specs.declared.debug.DebugReply.TheVariants.{Node as NodeReply}
use Rattle.beam_model.specs.Prelude.{Listing}
use Rattle.beam_laws.specs.Prelude.{Origin}
use Rattle.beam_receipts.specs.Receipts.{Move, moved_out}
use Rattle.beam_journal.specs.Entering.{entry_of}

-- a process that is checked out, to be run apart from the node, and the number of its checkout
pub record CheckedOut : Type 0 where
  pub pid : ℕ
  pub serial : ℕ

pub record Node : Type 0 where
  pub state : Debugged
  pub journal : List Entry
  pub drained : ℕ  -- how many of its entries have left memory: the first ones
  pub drains : List ℕ  -- how many entries it had whenever its entries left memory, the last time first
  pub seats : ℕ  -- how many seats were given
  pub handed : List Origin  -- all that was handed out, in its order: checkout n is the one at position n
  pub checked_out : List CheckedOut
  pub moves : List Move  -- which processes were checked out and in, in this order
  pub limit : ℕ  -- how many entries of the journal can be in memory

-- the node with no code, no processes and no entries, and with this limit
abbrev pub new_node : ℕ → Node
new_node limit = record { state = undisturbed empty; journal = []; drained = 0; drains = []; seats = 0; handed = []; checked_out = []; moves = []; limit = limit }

-- the most seats of a node
abbrev pub most_seats : ℕ
most_seats = 4096

-- the number of the checkout of a process that is checked out
abbrev pub serial_of : ℕ → List CheckedOut → Option ℕ
serial_of pid [] = None
serial_of pid (o ∷ rest) = if o.pid == pid then Some o.serial else serial_of pid rest

-- ---- a process is checked out

abbrev pub has_any : List Signal → Bool
has_any signals = not (length signals == 0)

-- whether a signal is in transit to a process that hasn't ended
abbrev pub process_has_incoming : Option Process → Bool
process_has_incoming (Some p) = has_any p.transit
process_has_incoming None = false

abbrev pub has_incoming : Node → ℕ → Bool
has_incoming n pid = process_has_incoming (live_process n.state.node.processes pid)

-- the signals in transit to a process are delivered first, by an event that no seat sent
abbrev pub deliveries : ℕ → Bool → List Entry
deliveries pid true = record { event = NodeEvent (Deliver pid); seat = None; reply = NodeReply Done } ∷ []
deliveries pid false = []

abbrev pub delivered_if : Debugged → ℕ → Bool → Debugged
delivered_if d pid true = (debug_next d (NodeEvent (Deliver pid))).state
delivered_if d pid false = d

-- the state in which a process is checked out
abbrev pub delivered_to : Node → ℕ → Debugged
delivered_to n pid = delivered_if n.state pid (has_incoming n pid)

-- a process after all signals in transit to it have arrived
abbrev pub all_arrived : Process → Bool → Process
all_arrived p true = delivered (record p { transit = [] }) p.transit
all_arrived p false = p

abbrev pub origin_in : Debugged → ℕ → Option Process → Option Origin
origin_in d pid (Some p) = Some (record {
  pid = pid;
  process = all_arrived p (has_any p.transit);
  passes = is_among pid d.passing;
  code = d.node.code;
  spots = d.spots;
})
origin_in d pid None = None

-- the origin of a process's checkout: the process after all signals in transit have arrived, with all that decides its rows
abbrev pub origin : Node → ℕ → Option Origin
origin n pid = origin_in n.state pid (live_process n.state.node.processes pid)

-- the node after a process was checked out
abbrev pub handed_out : Node → ℕ → Origin → Node
handed_out n pid o = record n {
  state = delivered_to n pid;
  journal = n.journal ++ deliveries pid (has_incoming n pid);
  handed = n.handed ++ o ∷ [];
  checked_out = n.checked_out ++ record { pid = pid; serial = length n.handed } ∷ [];
  moves = n.moves ++ moved_out pid ∷ [];
}

-- ---- a command of a seat

-- the node after it accepted an event of a seat with this reply, which may say that an allocation failure cut the event
abbrev pub accepted : Node → DebugEvent Listing → ℕ → DebugReply View → Node
accepted n event seat reply = record n {
  state = debug_after n.state event (Ok reply);
  journal = n.journal ++ entry_of event (Some seat) reply ∷ [];
}

-- the node after it accepted an event that no seat sent, with this reply
abbrev pub accepted_without_seat : Node → DebugEvent Listing → DebugReply View → Node
accepted_without_seat n event reply = record n {
  state = debug_after n.state event (Ok reply);
  journal = n.journal ++ entry_of event None reply ∷ [];
}

-- ---- entries leave memory

-- the node after all its entries have left memory
abbrev pub without_entries : Node → Node
without_entries n = record n { drained = length n.journal; drains = length n.journal ∷ n.drains }
