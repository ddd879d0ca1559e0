use Rattle.std.proofs.Common.{◌≡◌, length}
use Rattle.beam_machine.specs.Prelude.{are_apart}
use Rattle.beam_codesrv.proofs.Apart.{are_apart_after}
use Rattle.beam_codesrv.proofs.upgrading.are_apart.Given as goal

abbrev pub invariant-loop-image : goal.invariant-loop-image
invariant-loop-image l = are_apart_after l.seen.keys l.rest ≡ are_apart l.fn.images

abbrev pub decreases-loop-image : goal.decreases-loop-image
decreases-loop-image l = length l.rest
