use Rattle.std.proofs.Common.{drop}
use Rattle.beam_journal.proofs.Replayed.{SentOn}
use Rattle.beam_journal.proofs.replay.replayed.Given as goal

abbrev pub invariant-loop-entry : goal.invariant-loop-entry
invariant-loop-entry l = SentOn l.node.state (drop l.entry-index l.entries) l.entries
