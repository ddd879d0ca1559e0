use Rattle.beam_machine.specs.Prelude.{Debugged}
use Rattle.beam_debug.specs.Prelude.{capacity_of, debugged}
use Rattle.beam_debug.proofs.Capacities.{reserved}
use Rattle.beam_debug.proofs.debugger.Debugger.reserve.Goals as goal
use Rattle.std.proofs.Common.{vec_capacity}

pub invariant_of-self : goal.invariant_of-self
invariant_of-self c =
    let d : Debugged = debugged c.self.inside.core c.self.inside.debug in
    reserved d c.make_room.new.held.items (capacity_of c.self.inside.debug) (vec_capacity c.make_room.new.held) c.make_room.ensures.items c.make_room.ensures.kept
    c.self.invariant.0 c.self.invariant.1
