use Rattle.std.proofs.Common.{sym, subst, ◌∙◌}
use Rattle.beam_watches.specs.MonitorEntries.{AreBelow}
use Rattle.beam_watches.proofs.Parts.{below_first, below_second, apart_pushed}
use Rattle.beam_watches.proofs.monitors.Monitors.push.Goals as goal

pub push-requires : goal.push-requires
push-requires c =
    below_second c.args.reference c.self.inside.older c.self.inside.newest (subst (AreBelow c.args.reference) (sym (c.self.view_is ∙ c.settle.ensures)) c.requires)

pub invariant_of-self-2 : goal.invariant_of-self-2
invariant_of-self-2 c =
    let below = below_first c.args.reference c.self.inside.older c.self.inside.newest (subst (AreBelow c.args.reference) (sym (c.self.view_is ∙ c.settle.ensures)) c.requires) in
    rw c.in_ok-push.ensures.ok (apart_pushed (record { reference = c.args.reference; pid = c.args.pid }) c.self.inside.older c.self.inside.newest c.self.invariant below)
