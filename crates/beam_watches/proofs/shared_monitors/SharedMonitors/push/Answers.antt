use Rattle.std.proofs.Common.{sym, subst, ◌∙◌}
use Rattle.beam_watches.specs.MonitorEntries.{AreBelow}
use Rattle.beam_watches.proofs.Flags.{followed, below_each}
use Rattle.beam_watches.proofs.shared_monitors.SharedMonitors.push.Goals as goal

pub whole-requires : goal.whole-requires
whole-requires c =
    let below = subst (AreBelow c.args.reference) (sym (c.in_ok-all.ensures.all ∙ c.in-Err.ensures.err)) c.requires in
    rw c.in_ok-push.ensures.items (followed _ c.args.reference c.in-Err.pid (below_each c.args.reference _ below) c.in_ok-all.ensures.rising)
