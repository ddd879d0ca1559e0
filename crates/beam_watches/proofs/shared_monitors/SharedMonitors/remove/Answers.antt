use Rattle.std.specs.Arc.{arc_value}
use Rattle.beam_watches.proofs.Flags.{none_removed, flagged_removed, dropped_removed, are_left, some_flagged}
use Rattle.beam_watches.proofs.shared_monitors.SharedMonitors.remove.Goals as goal

pub returns-in_default : goal.returns-in_default
returns-in_default c =
    rw (← c.self.view_is) (none_removed c.args.reference (arc_value c.self.inside.all).items c.self.inside.flags.items (rw (c.deref-2.ensures.value, c.deref.ensures) at c.in_default.ensures.absent))

pub overflow_sub-self : goal.overflow_sub-self
overflow_sub-self c =
    let at = rw (c.deref-2.ensures.value, c.deref.ensures) at c.in-Ok.ensures.found in
    some_flagged (arc_value c.self.inside.all).items c.self.inside.flags.items c.self.inside.count c.args.reference c.in-Ok.place c.self.invariant at
    c.index.result.now c.index.ensures c.if-index.true

pub invariant_of-self : goal.invariant_of-self
invariant_of-self c =
    let at = rw (c.deref-2.ensures.value, c.deref.ensures) at c.in-Ok.ensures.found in
    are_left (arc_value c.self.inside.all).items c.self.inside.flags.items c.self.inside.count c.args.reference c.in-Ok.place c.self.invariant at
    c.index.result.now c.index.ensures c.if-index.true

pub returns-then-index : goal.returns-then-index
returns-then-index c =
    let at = rw (c.deref-2.ensures.value, c.deref.ensures) at c.in-Ok.ensures.found in
    rw (← c.self.view_is) (flagged_removed (arc_value c.self.inside.all).items c.self.inside.flags.items c.self.inside.count c.args.reference c.in-Ok.place c.self.invariant at
    c.index.result.now c.index.ensures)

pub returns-else-index : goal.returns-else-index
returns-else-index c =
    let at = rw (c.deref-2.ensures.value, c.deref.ensures) at c.in-Ok.ensures.found in
    rw (← c.self.view_is) (dropped_removed (arc_value c.self.inside.all).items c.self.inside.flags.items c.self.inside.count c.args.reference c.in-Ok.place c.self.invariant at
    c.index.result.now c.index.ensures c.if-index.false)
