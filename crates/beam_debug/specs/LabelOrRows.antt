-- How an instruction counts in the search for the last label and the rows after it.
use Rattle.std.specs.Prelude.{ℕ, ◌≤◌, if◌then◌else◌, Option, Some, None}
use Rattle.beam_model.specs.declared.instruction.Instruction.{Instruction}
use Rattle.beam_model.specs.Prelude.{label_of, is_row}
use Rattle.beam_debug.specs.declared.label_or_rows.LabelOrRows.{LabelOrRows}
use Rattle.beam_debug.specs.declared.label_or_rows.LabelOrRows.TheVariants.{Label, Rows}

abbrev pub label_or_rows_by : Instruction → Option ℕ → LabelOrRows
label_or_rows_by i (Some label) = Label label
label_or_rows_by i None = if is_row i then Rows 1 else Rows 0

-- how an instruction counts, if there is one
abbrev pub label_or_rows_at : Option Instruction → LabelOrRows
label_or_rows_at (Some i) = label_or_rows_by i (label_of i)
label_or_rows_at None = Rows 0

abbrev pub IsOneRow : LabelOrRows → Type 0
IsOneRow (Label label) = Unit {0}
IsOneRow (Rows n) = n ≤ 1
