use Rattle.std.proofs.Common.{rules, ◌≤◌, length}
use Rattle.beam_journal.proofs.Counts.{few_counted}
use Rattle.beam_journal.proofs.node_journal.NodeJournal.push.Goals as goal

-- a journal never has as many entries as a count can tell
pub with-self-inside-requires : goal.with-self-inside-requires
with-self-inside-requires c =
    let i = c.self.inside in
    let within : length i.entries.items ≤ i.limit = search rules in
    few_counted i.gone.events i.entries.items i.counts i.drained i.limit c.self.invariant.5 c.self.invariant.3 c.self.invariant.4 within c.self.invariant.2
