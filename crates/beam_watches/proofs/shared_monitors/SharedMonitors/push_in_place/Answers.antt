use Rattle.std.proofs.Common.{◌++◌, ◌∷◌, [], refl, arith}
use Rattle.std.specs.Arc.{arc_value}
use Rattle.beam_watches.specs.MonitorEntries.{AreRising}
use Rattle.beam_watches.proofs.Flags.{are_pushed, pushed_monitors, flagged_short}
use Rattle.beam_watches.proofs.shared_monitors.SharedMonitors.push_in_place.Goals as goal

pub overflow_add-self : goal.overflow_add-self
overflow_add-self c =
    omega (arith, flagged_short (arc_value c.self.inside.all).items c.self.inside.flags.items, c.self.invariant.counted, c.self.inside.flags.ok.0, c.self.inside.flags.ok.1, c.self.inside.flags.small)

pub invariant_of-self-2 : goal.invariant_of-self-2
invariant_of-self-2 c =
    let rising : AreRising ((arc_value c.self.inside.all).items ++ (c.args.reference, c.args.pid) ∷ []) =
    rw (← c.in-Some.ensures.value, ← c.deref.ensures.value) (c.if-not-can_follow.ensures refl (rw (c.deref.ensures.value, c.in-Some.ensures.value) c.self.invariant.rising) c.args.pid) in
    rw (c.push_reserved.ensures.items, c.push_reserved-2.ensures.items, c.reserve.ensures.items, c.in-Some.ensures.value)
    (are_pushed (arc_value c.self.inside.all).items c.self.inside.flags.items c.self.inside.count (c.args.reference, c.args.pid) c.self.invariant rising)

pub returns-clause-ok : goal.returns-clause-ok
returns-clause-ok c =
    rw (c.push_reserved.ensures.items, c.push_reserved-2.ensures.items, c.reserve.ensures.items, c.in-Some.ensures.value, ← c.self.view_is)
    (pushed_monitors (arc_value c.self.inside.all).items c.self.inside.flags.items c.args.reference c.args.pid c.self.invariant.each)
