use Rattle.std.specs.Arc.{arc_value}
use Rattle.beam_watches.proofs.Flags.{none_read, flagged_read, dropped_read}
use Rattle.beam_watches.proofs.shared_monitors.SharedMonitors.get.Goals as goal

pub returns-in_default : goal.returns-in_default
returns-in_default c =
    rw (← c.self.view_is) (none_read c.args.reference (arc_value c.self.inside.all).items c.self.inside.flags.items (rw (c.deref-2.ensures.value, c.deref.ensures) at c.in_default.ensures.absent))

pub returns-then-index : goal.returns-then-index
returns-then-index c =
    let at = rw (c.deref-2.ensures.value, c.deref.ensures) at c.in-Ok.ensures.found in
    rw (← c.self.view_is) (flagged_read (arc_value c.self.inside.all).items c.self.inside.flags.items c.self.inside.count c.args.reference c.in-Ok.place c.self.invariant at
    c.index.result.now c.index.ensures c.index-then-index.result.now (rw c.deref-then-index.ensures at c.index-then-index.ensures) c.if-index.true)

pub returns-else-index : goal.returns-else-index
returns-else-index c =
    let at = rw (c.deref-2.ensures.value, c.deref.ensures) at c.in-Ok.ensures.found in
    rw (← c.self.view_is) (dropped_read (arc_value c.self.inside.all).items c.self.inside.flags.items c.self.inside.count c.args.reference c.in-Ok.place c.self.invariant at
    c.index.result.now c.index.ensures c.if-index.false)
