use Rattle.std.proofs.Common.{◌≡◌, ◌+◌, take, None}
use Rattle.beam_machine.specs.Prelude.{last_function}
use Rattle.beam_debug.proofs.location.last_function.Given as goal

abbrev pub invariant-loop-found : goal.invariant-loop-found
invariant-loop-found l = last_function None (take (l.left + 1) l.image.instructions) ≡ last_function None (take (l.at + 1) l.image.instructions)

abbrev pub decreases-loop-found : goal.decreases-loop-found
decreases-loop-found l = l.left
