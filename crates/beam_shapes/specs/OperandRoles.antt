-- The numbers that a row's operands name: registers that it reads, registers that it writes, or labels.
use Rattle.std.specs.Prelude.{ℕ, Bool, true, false, List, [], ◌∷◌}
use Rattle.std.specs.List.{list_any}
use Rattle.beam_model.specs.declared.instruction.Argument.{Argument}
use Rattle.beam_model.specs.declared.instruction.Operand.{Operand}
use Rattle.beam_model.specs.declared.instruction.Instruction.{Instruction}
use Rattle.beam_model.specs.declared.opcode.Kind.{Kind}
use Rattle.beam_model.specs.declared.opcode.Opcode.{Opcode}
use Rattle.beam_model.specs.Prelude.{y_in, ys_in, label_of_argument, labels_in, is_read, is_written, is_jump, named_by}
use Rattle.beam_model.specs.declared.instruction.Operand.TheVariants as operand
use Rattle.beam_shapes.specs.declared.named.OperandRole.{OperandRole}
use Rattle.beam_shapes.specs.declared.named.OperandRole.TheVariants as part

abbrev pub is_of : OperandRole → Opcode → Kind → Bool
is_of part.Reads = is_read
is_of part.Writes = is_written
is_of part.Jumps = is_jump

abbrev pub numbers_of : OperandRole → Argument → List ℕ
numbers_of part.Jumps = label_of_argument
numbers_of _ = y_in

abbrev pub numbers_in : OperandRole → Operand → List ℕ
numbers_in part.Jumps = labels_in
numbers_in _ = ys_in

abbrev pub is_some_of : List ℕ → Bool
is_some_of [] = false
is_some_of (n ∷ rest) = true

-- whether an operand may name something, whatever its kind is: lists aren't looked through
abbrev pub may_name : OperandRole → Operand → Bool
may_name p (operand.One a) = is_some_of (numbers_of p a)
may_name p (operand.Import i) = false
may_name p (operand.List as') = true

abbrev pub may_name_some : OperandRole → Instruction → Bool
may_name_some p i = list_any (may_name p) i.operands

abbrev pub named : OperandRole → Instruction → List ℕ
named p i = named_by (numbers_in p) (is_of p i.opcode) i
