-- Instructions whose operands stand in a list that they share.
use Rattle.std.specs.Prelude.{◌≡◌, ℕ, ◌+◌, ◌≤◌, List, ◌++◌, length, take, drop, Result, Ok}
use Rattle.beam_model.specs.declared.instruction.Operand.{Operand}
use Rattle.beam_model.specs.declared.instruction.Instruction.{Instruction}
use Rattle.beam_model.specs.Prelude.{CodeFault}
use Rattle.beam_model.specs.Compact.{◌>>=◌}
use Rattle.beam_code.specs.declared.instruction.InstructionSpan.{InstructionSpan}

-- the operands so far, and then the operands that are read
abbrev pub put_last : List Operand → Result (List Operand × ℕ) CodeFault → Result (List Operand × ℕ) CodeFault
put_last front read = read >>= λ x. Ok (front ++ x.0, x.1)

-- an instruction whose operands stand in a list
abbrev pub made_of : List Operand → InstructionSpan → Instruction
made_of pool h = record { opcode = h.opcode; operands = take h.count (drop h.from pool) }

abbrev pub IsWithin : List Operand → InstructionSpan → Type 0
IsWithin pool h = h.from + h.count ≤ length pool

-- the instruction's operands, and no others, were appended to the earlier ones
pub record IsPut (old new : List Operand) (h : InstructionSpan) : Type 0 where
  pub from : h.from ≡ length old
  pub to : h.from + h.count ≡ length new
  pub front : take (length old) new ≡ old
