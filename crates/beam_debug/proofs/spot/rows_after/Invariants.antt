use Rattle.std.proofs.Common.{◌≡◌}
use Rattle.beam_machine.specs.Prelude.{rows_after}
use Rattle.beam_debug.proofs.spot.rows_after.Given as goal

abbrev pub invariant-loop-next : goal.invariant-loop-next
invariant-loop-next l = rows_after l.left l.at l.image.instructions ≡ rows_after l.rows l.start l.image.instructions

abbrev pub decreases-loop-next : goal.decreases-loop-next
decreases-loop-next l = l.left
