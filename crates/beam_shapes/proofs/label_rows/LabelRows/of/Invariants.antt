use Rattle.std.proofs.Common.{◌≡◌, ◌+◌, drop}
use Rattle.beam_model.specs.Prelude.{gap_before_row}
use Rattle.beam_shapes.specs.Prelude.{HasRows}
use Rattle.beam_shapes.proofs.label_rows.LabelRows.of.Given as goal

abbrev pub invariant-loop-at : goal.invariant-loop-at
invariant-loop-at l = (l.row ≡ l.at + gap_before_row (drop l.at l.instructions)) × HasRows l.at (drop l.at l.instructions) l.rows
