use Rattle.beam_watches.proofs.Parts.{apart_removed}
use Rattle.beam_watches.proofs.monitors.Monitors.remove.Goals as goal

pub invariant_of-self : goal.invariant_of-self
invariant_of-self c =
    rw (c.remove.ensures, c.remove-2.ensures) (apart_removed c.args.reference c.self.inside.older c.self.inside.newest c.self.invariant)
