use Rattle.std.proofs.Common.{◌≡◌, ◌+◌, ◌-◌, ◌<◌, ◌≤◌, length, drop}
use Rattle.beam_model.specs.Prelude.{gap_before_row, next_row}
use Rattle.beam_shapes.proofs.rows.LabelledCode.next_row.Given as goal

-- the first row from here on is the first row from the position on
abbrev pub invariant-loop-next : goal.invariant-loop-next
invariant-loop-next l = record {
  within : l.next ≤ length l.self-inside.instructions.now;
  after : l.fn.at < l.next;
  passes : l.next + gap_before_row (drop l.next l.self-inside.instructions.now) ≡ next_row l.fn.at l.self-inside.instructions.now;
}

abbrev pub decreases-loop-next : goal.decreases-loop-next
decreases-loop-next l = length l.self-inside.instructions.now - l.next
