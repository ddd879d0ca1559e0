use Rattle.std.proofs.Common.{rules, sym, ◌∙◌}
use Rattle.beam_watches.proofs.Flags.{flagged_past}
use Rattle.beam_watches.proofs.shared_monitors.FlaggedEntriesIterator.next.Goals as goal

pub returns-clause-steps : goal.returns-clause-steps
returns-clause-steps c =
    let gone = flagged_past c.loop-flag.self-inside.all.now c.loop-flag.self-inside.flags.now (search rules) in
    (sym c.loop-flag.invariant ∙ gone, gone)
