use Rattle.std.proofs.Common.{◌≡◌, length}
use Rattle.beam_shapes.proofs.first_mismatch.mismatched_in_order.Given as goal

abbrev pub invariant-loop-at : goal.invariant-loop-at
invariant-loop-at l = length l.known.known ≡ length l.fn.known.known
