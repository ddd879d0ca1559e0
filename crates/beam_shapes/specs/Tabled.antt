-- The rows to which labels lead, in a table and a tree.
use Rattle.std.specs.Prelude.{◌≡◌, ℕ, nat_lt, if◌then◌else◌, List, length, slice_get, Option, None, unwrap_or}
use Rattle.std.specs.BTreeMap.{get}
use Rattle.std.specs.Ordering.{nat_cmp}
use Rattle.beam_model.specs.declared.instruction.Instruction.{Instruction}
use Rattle.beam_model.specs.Prelude.{row_of_label}
use Rattle.beam_shapes.specs.declared.label_rows.LabelRows.{LabelRows}

-- the row to which a label leads
abbrev pub row_after_label : LabelRows → ℕ → Option ℕ
row_after_label rows label = if nat_lt label (length rows.near.items) then unwrap_or (slice_get rows.near.items label) None else get nat_cmp rows.far label

-- the row of each label is its row in a list of instructions that begins at position at
abbrev pub HasRows : ℕ → List Instruction → LabelRows → Type 0
HasRows at code rows = (label : ℕ) → row_after_label rows label ≡ row_of_label label at code
