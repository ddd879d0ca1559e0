-- Each printed instruction is read again, by the shape in which it is written.
use Rattle.std.proofs.Common.{◌≡◌, true, false, List, refl, ap, ◌||◌}
use Rattle.beam_model.specs.declared.instruction.Operand.{Operand}
use Rattle.beam_model.specs.declared.opcode.Opcode.{Opcode}
use Rattle.beam_model.specs.Prelude.{listed_operands, kinds_of, name_of, atom_text, shape_of, shape_text, instruction_text, is_plain_shape, is_test_shape}
use Rattle.beam_model.specs.declared.opcode.Opcode.TheVariants as op
use Rattle.beam_model.specs.declared.shape.Shape.{Shape}
use Rattle.beam_model.specs.declared.shape.Shape.TheVariants as shape
use Rattle.beam_model.specs.ListingForms.{is_end}
use Rattle.beam_listing.proofs.Under.{AreUnder}
use Rattle.beam_listing.proofs.Written.{IsWritten, made, plain_written, test_written, line_written}
use Rattle.beam_listing.proofs.BuiltIns.{bif0_any, bif1_any, bif2_any, gc_bif1_any, gc_bif2_any, raise_any}

-- an instruction that can be written
pub record IsInstruction (o : Opcode) (os : List Operand) : Type 0 where
  pub ends : is_end o ≡ false
  pub operands : AreUnder (kinds_of o) os

-- by its own name
named_by : (s : Shape) (o : Opcode) (os : List Operand) → shape_of o ≡ s → (is_plain_shape s || is_test_shape s) ≡ true → IsInstruction o os
    → IsWritten (shape_text s (atom_text (name_of o)) os) (made o os)
named_by shape.Plain o os e named is = plain_written o os is.ends (ap is_plain_shape e) is.operands
named_by shape.Test o os e named is = test_written o os (ap is_test_shape e) is.operands
named_by shape.Line o os e named is = absurd cc
named_by shape.Bif0 o os e named is = absurd cc
named_by shape.Bif o os e named is = absurd cc
named_by shape.GcBif o os e named is = absurd cc
named_by shape.Raise o os e named is = absurd cc

named_written : (o : Opcode) (os : List Operand) → (is_plain_shape (shape_of o) || is_test_shape (shape_of o)) ≡ true → IsInstruction o os
    → IsWritten (instruction_text (made o os)) (made o os)
named_written o os named is = named_by (shape_of o) o os refl named is

-- an instruction is written in its shape, a line without its operand
pub instruction_written : (o : Opcode) (os : List Operand) → IsInstruction o os → IsWritten (instruction_text (made o os)) (made o (listed_operands o os))
instruction_written op.Line os is = line_written
instruction_written op.Bif0 os is = bif0_any (atom_text (name_of op.Bif0)) os is.operands
instruction_written op.Bif1 os is = bif1_any (atom_text (name_of op.Bif1)) os is.operands
instruction_written op.Bif2 os is = bif2_any (atom_text (name_of op.Bif2)) os is.operands
instruction_written op.GcBif1 os is = gc_bif1_any (atom_text (name_of op.GcBif1)) os is.operands
instruction_written op.GcBif2 os is = gc_bif2_any (atom_text (name_of op.GcBif2)) os is.operands
instruction_written op.Raise os is = raise_any os is.operands
instruction_written o os is = named_written o os refl is
