use Rattle.beam_watches.proofs.Flags.{flagged_rising}
use Rattle.beam_watches.proofs.shared_monitors.SharedMonitors.entries.Goals as goal

pub returns-clause-rising : goal.returns-clause-rising
returns-clause-rising c =
    rw (c.deref-2.ensures.value, c.deref-3.ensures.value, c.deref.ensures) (flagged_rising _ c.self.inside.flags.items c.self.invariant.rising)
