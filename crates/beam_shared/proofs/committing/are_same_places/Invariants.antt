use Rattle.std.proofs.Common.{◌≡◌, length}
use Rattle.beam_shared.specs.Prelude.{same_places}
use Rattle.beam_shared.proofs.committing.are_same_places.Given as goal

abbrev pub invariant-loop-spot : goal.invariant-loop-spot
invariant-loop-spot l = same_places l.spots l.others ≡ same_places l.fn.spots l.fn.others

abbrev pub decreases-loop-spot : goal.decreases-loop-spot
decreases-loop-spot l = length l.spots
