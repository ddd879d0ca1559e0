-- An instruction for a worked example of its form.
use Rattle.std.specs.Prelude.{[], ◌∷◌, codes}
use Rattle.beam_term.specs.Prelude.{atom_term}
use Rattle.beam_model.specs.declared.instruction.Argument.TheVariants as argument
use Rattle.beam_model.specs.declared.instruction.Operand.TheVariants as operand
use Rattle.beam_model.specs.declared.item.Item.{Item}
use Rattle.beam_model.specs.declared.item.Item.TheVariants as item
use Rattle.beam_model.specs.declared.opcode.Opcode.TheVariants as op

-- the atom `ok` is moved to x0
abbrev pub moves_ok : Item
moves_ok = item.Instruction (record { opcode = op.Move; operands = operand.One (argument.Term (atom_term (codes "ok"))) ∷ operand.One (argument.X 0) ∷ [] })
