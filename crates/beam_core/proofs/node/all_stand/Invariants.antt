use Rattle.std.proofs.Common.{length}
use Rattle.std.specs.List.{AllByRecursion}
use Rattle.beam_model.specs.Prelude.{CanLoad}
use Rattle.beam_core.proofs.node.all_stand.Given as goal

abbrev pub invariant-loop-image : goal.invariant-loop-image
invariant-loop-image l = AllByRecursion CanLoad l.rest → AllByRecursion CanLoad l.fn.images

abbrev pub decreases-loop-image : goal.decreases-loop-image
decreases-loop-image l = length l.rest
