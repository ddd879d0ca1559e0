-- The entries of a journal by what they are for. (This node's own.)
use Rattle.std.specs.Prelude.{ℕ, ◌+◌, List, fold}
use Rattle.beam_machine.specs.declared.debug.DebugEvent.{DebugEvent}
use Rattle.beam_machine.specs.declared.debug.DebugEvent.TheVariants as debugged
use Rattle.beam_machine.specs.declared.event.Event.TheVariants as event
use Rattle.beam_machine.specs.Prelude.{SentEvent}
use Rattle.beam_journal.specs.declared.entry_counts.EntryCounts.{EntryCounts}
use Rattle.beam_journal.specs.declared.entry_counts.EntryKind.{EntryKind}
use Rattle.beam_journal.specs.declared.entry_counts.EntryKind.TheVariants.{Slice, Delivery, Moment, Timeout, Command}

-- rows, arrivals, moments and ends of waits are what schedulers enter; all others are asked for
abbrev pub kind_of : {I : Type 0} → DebugEvent I → EntryKind
kind_of (debugged.Node (event.Steps pid rows)) = Slice
kind_of (debugged.Node (event.Deliver pid)) = Delivery
kind_of (debugged.Node (event.Clock now)) = Moment
kind_of (debugged.Node (event.Timeout pid)) = Timeout
kind_of (debugged.Node (event.Load image)) = Command
kind_of (debugged.Node (event.LoadStrict image)) = Command
kind_of (debugged.Node (event.AtomicLoad mode images)) = Command
kind_of (debugged.Node (event.Delete name)) = Command
kind_of (debugged.Node (event.SoftPurge name)) = Command
kind_of (debugged.Node (event.Purge name)) = Command
kind_of (debugged.Node (event.Versions name)) = Command
kind_of (debugged.Node (event.Spawn name function arguments)) = Command
kind_of (debugged.Node (event.Send to message)) = Command
kind_of (debugged.SetBreak spot) = Command
kind_of (debugged.ClearBreak spot) = Command
kind_of (debugged.Resume pid) = Command
kind_of (debugged.StepOne pid) = Command
kind_of (debugged.Inspect pid) = Command

abbrev pub no_entries : EntryCounts
no_entries = record { slices = 0; deliveries = 0; moments = 0; timeouts = 0; commands = 0 }

abbrev pub one_more : EntryCounts → EntryKind → EntryCounts
one_more counts Slice = record counts { slices = counts.slices + 1 }
one_more counts Delivery = record counts { deliveries = counts.deliveries + 1 }
one_more counts Moment = record counts { moments = counts.moments + 1 }
one_more counts Timeout = record counts { timeouts = counts.timeouts + 1 }
one_more counts Command = record counts { commands = counts.commands + 1 }

-- how many entries of each kind there are
abbrev pub counts_of : List SentEvent → EntryCounts
counts_of = fold (λ counts s. one_more counts (kind_of s.event)) no_entries

abbrev pub total : EntryCounts → ℕ
total counts = counts.slices + counts.deliveries + counts.moments + counts.timeouts + counts.commands
