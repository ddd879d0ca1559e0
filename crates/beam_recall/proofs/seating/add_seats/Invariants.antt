use Rattle.std.proofs.Common.{◌≡◌, ◌+◌, ◌-◌, length}
use Rattle.beam_recall.specs.Recalling.{AreNumbered}
use Rattle.beam_recall.proofs.seating.add_seats.Given as goal

abbrev pub invariant-loop-seats : goal.invariant-loop-seats
invariant-loop-seats g l = AreNumbered l.node.seats l.seats.items × (l.node ≡ record l.initial.node { seats = l.node.seats })

abbrev pub decreases-loop-seats : goal.decreases-loop-seats
decreases-loop-seats g l = (l.number + 1) - length l.seats.items
