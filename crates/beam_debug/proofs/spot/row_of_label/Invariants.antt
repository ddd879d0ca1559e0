use Rattle.std.proofs.Common.{◌≡◌, ◌-◌, drop, length}
use Rattle.beam_model.specs.Prelude.{row_of_label}
use Rattle.beam_debug.proofs.spot.row_of_label.Given as goal

abbrev pub invariant-loop-next : goal.invariant-loop-next
invariant-loop-next l = row_of_label l.label l.at (drop l.at l.image.instructions) ≡ row_of_label l.label 0 l.image.instructions

abbrev pub decreases-loop-next : goal.decreases-loop-next
decreases-loop-next l = length l.image.instructions - l.at
