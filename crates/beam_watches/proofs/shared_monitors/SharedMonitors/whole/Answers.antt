use Rattle.std.proofs.Common.{rules, ap}
use Rattle.beam_watches.specs.MonitorEntries.{monitors_in}
use Rattle.beam_watches.proofs.Flags.{are_whole, whole_is}
use Rattle.beam_watches.proofs.shared_monitors.SharedMonitors.whole.Goals as goal

pub invariant_of-result : goal.invariant_of-result
invariant_of-result c =
    rw c.in_ok-all.ensures.ok (are_whole c.args.all.items c.in_ok-flags.flags.items c.len-count.result c.requires (search rules) (c.in_ok-flags.ensures.items_if_clones_equal (λ y same. same)))

pub returns : goal.returns
returns c =
    rw c.in_ok-all.ensures.ok (ap monitors_in (whole_is c.args.all.items c.in_ok-flags.flags.items c.len-count.result (search rules) (c.in_ok-flags.ensures.items_if_clones_equal (λ y same. same))))
