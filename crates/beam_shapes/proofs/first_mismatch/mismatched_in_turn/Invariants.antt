use Rattle.std.proofs.Common.{◌≡◌, ◌+◌, length}
use Rattle.beam_shapes.specs.Prelude.{room}
use Rattle.beam_shapes.proofs.first_mismatch.mismatched_in_turn.Given as goal

abbrev pub invariant-loop-at : goal.invariant-loop-at
invariant-loop-at l = length l.known.known ≡ length l.fn.known.known

abbrev pub decreases-loop-at : goal.decreases-loop-at
decreases-loop-at l = room l.known.known + length l.known.waiting
