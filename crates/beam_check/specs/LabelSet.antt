-- A set of labels, in a table and an index set, and what is asked of labels by a test of them.
use Rattle.std.specs.Prelude.{◌≡◌, ℕ, Bool, true, false, ◌&&◌, ◌||◌, nat_lt, length, slice_index_or, if◌then◌else◌, List}
use Rattle.std.specs.List.{list_all}
use Rattle.beam_model.specs.declared.instruction.Argument.{Argument}
use Rattle.beam_model.specs.declared.instruction.Operand.{Operand}
use Rattle.beam_model.specs.declared.instruction.Instruction.{Instruction}
use Rattle.beam_model.specs.declared.opcode.Kind.{Kind}
use Rattle.beam_model.specs.Prelude.{kinds_of, is_among, is_none_label, all_operands}
use Rattle.beam_model.specs.declared.instruction.Argument.TheVariants as argument
use Rattle.beam_model.specs.declared.instruction.Operand.TheVariants as operand
use Rattle.beam_model.specs.declared.opcode.Kind.TheVariants as kind
use Rattle.beam_check.specs.declared.labels.LabelSet.{LabelSet}

-- a label of the set: it is marked in the table, or it is past the table and in the index set
abbrev pub has_label : LabelSet → ℕ → Bool
has_label labels n = if nat_lt n (length labels.near.items) then slice_index_or labels.near.items n false else is_among n labels.far.keys

-- the set holds these labels, and no others
abbrev pub HasLabels : List ℕ → LabelSet → Type 0
HasLabels ns labels = (n : ℕ) → has_label labels n ≡ is_among n ns

-- as is_argument_defined and those after it say of a list of labels
abbrev pub is_argument_marked : (ℕ → Bool) → Argument → Bool
is_argument_marked marked (argument.Label n) = nat_lt 0 n && marked n
is_argument_marked marked _ = true

abbrev pub is_marked_in : (ℕ → Bool) → Operand → Bool
is_marked_in marked (operand.One a) = is_argument_marked marked a
is_marked_in marked (operand.Import i) = true
is_marked_in marked (operand.List as') = list_all (is_argument_marked marked) as'

abbrev pub is_target : (ℕ → Bool) → Kind → Operand → Bool
is_target marked kind.FailLabel o = is_none_label o || is_marked_in marked o
is_target marked _ o = is_marked_in marked o

abbrev pub are_marked_targets : (ℕ → Bool) → Instruction → Bool
are_marked_targets marked i = all_operands (is_target marked) (kinds_of i.opcode) i.operands
