use Rattle.std.proofs.Common.{◌≡◌, ◌+◌, ◌≤◌, take}
use Rattle.beam_machine.specs.Prelude.{last_label}
use Rattle.beam_debug.proofs.Backwards.{none_passed, with_rows}
use Rattle.beam_debug.proofs.location.last_label.Given as goal

abbrev pub invariant-loop-left : goal.invariant-loop-left
invariant-loop-left l = record {
  so_far : with_rows l.rows (last_label none_passed (take l.left l.image.instructions)) ≡ last_label none_passed (take l.at l.image.instructions);
  count : l.rows + l.left ≤ l.at;
}

abbrev pub decreases-loop-left : goal.decreases-loop-left
decreases-loop-left l = l.left
