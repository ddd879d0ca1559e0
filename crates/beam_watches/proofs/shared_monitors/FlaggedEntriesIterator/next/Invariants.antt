use Rattle.std.proofs.Common.{◌≡◌, length}
use Rattle.beam_watches.specs.MonitorEntries.{flagged}
use Rattle.beam_watches.proofs.shared_monitors.FlaggedEntriesIterator.next.Given as goal

-- only entries that aren't kept were passed
abbrev pub invariant-loop-flag : goal.invariant-loop-flag
invariant-loop-flag l = flagged l.self-inside.all.now l.self-inside.flags.now ≡ l.fn.self

abbrev pub decreases-loop-flag : goal.decreases-loop-flag
decreases-loop-flag l = length l.self-inside.flags.now
