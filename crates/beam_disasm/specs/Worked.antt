-- A worked file, of a module t whose sum(N) adds N down to 0.
use Rattle.std.specs.Prelude.{ℕ, pos, List, [], ◌∷◌, ◌++◌, map, codes}
use Rattle.beam_model.specs.declared.function.Import.{Import}
use Rattle.beam_model.specs.declared.instruction.Argument.{Argument}
use Rattle.beam_model.specs.declared.instruction.Instruction.{Instruction}
use Rattle.beam_model.specs.declared.opcode.Opcode.{Opcode}
use Rattle.beam_model.specs.Prelude.{Listing, Tables, CodeParts, label, func_info}
use Rattle.beam_term.specs.Prelude.{int_term}
use Rattle.beam_model.specs.declared.instruction.Argument.TheVariants as argument
use Rattle.beam_model.specs.declared.instruction.Operand.TheVariants as operand
use Rattle.beam_model.specs.declared.opcode.Opcode.TheVariants as op

-- ---- the content of the file

abbrev with : Opcode → List Argument → Instruction
with opcode arguments = record { opcode = opcode; operands = map operand.One arguments }

abbrev integer : ℕ → Argument
integer n = argument.Term (int_term (pos n))

abbrev plus : Import
plus = record { «module» = codes "erlang"; function = codes "+"; arity = 2 }

abbrev minus : Import
minus = record { «module» = codes "erlang"; function = codes "-"; arity = 2 }

-- a native of two sources; its fail label 0 stands for none
abbrev gc_bif : Import → Argument → Argument → Argument → Instruction
gc_bif native s t d = record {
  opcode = op.GcBif2;
  operands = operand.One (argument.Label 0) ∷ operand.One (argument.Number 2) ∷ operand.Import native ∷ operand.One s ∷ operand.One t ∷ operand.One d ∷ [];
}

abbrev pub tables : Tables
tables = record {
  atoms = codes "t" ∷ codes "sum" ∷ codes "erlang" ∷ codes "+" ∷ codes "-" ∷ [];
  imports = plus ∷ minus ∷ [];
  exports = (record { name = codes "sum"; arity = 1; label = 2 }) ∷ [];
  literals = [];
}

abbrev pub code : CodeParts
code = record {
  label_count = 6;
  function_count = 2;
  instructions =
      label 1
      ∷ func_info (codes "t") (codes "sum") 1
      ∷ label 2
      ∷ with op.Move (integer 0 ∷ argument.X 1 ∷ [])
      ∷ with op.CallOnly (argument.Number 2 ∷ argument.Label 4 ∷ [])
      ∷ label 3
      ∷ func_info (codes "t") (codes "sum") 2
      ∷ label 4
      ∷ with op.IsEqExact (argument.Label 5 ∷ argument.X 0 ∷ integer 0 ∷ [])
      ∷ with op.Move (argument.X 1 ∷ argument.X 0 ∷ [])
      ∷ with op.Return []
      ∷ label 5
      ∷ gc_bif plus (argument.X 0) (argument.X 1) (argument.X 1)
      ∷ gc_bif minus (argument.X 0) (integer 1) (argument.X 0)
      ∷ with op.CallOnly (argument.Number 2 ∷ argument.Label 4 ∷ [])
      ∷ [];
}

abbrev pub listing : Listing
listing = record { name = codes "t"; exports = tables.exports; label_count = code.label_count; function_count = code.function_count; instructions = code.instructions }

-- ---- its bytes

-- 16, 0, the greatest opcode 125, 6 labels, 2 functions, and the instructions up to int_code_end, 3
abbrev pub code_bytes : List ℕ
code_bytes =
    (0 ∷ 0 ∷ 0 ∷ 16 ∷ 0 ∷ 0 ∷ 0 ∷ 0 ∷ 0 ∷ 0 ∷ 0 ∷ 125 ∷ 0 ∷ 0 ∷ 0 ∷ 6 ∷ 0 ∷ 0 ∷ 0 ∷ 2 ∷ [])
    ++ (1 ∷ 0x10 ∷ 2 ∷ 0x12 ∷ 0x22 ∷ 0x10 ∷ 1 ∷ 0x20 ∷ 64 ∷ 0x01 ∷ 0x13 ∷ 6 ∷ 0x20 ∷ 0x45 ∷ [])
    ++ (1 ∷ 0x30 ∷ 2 ∷ 0x12 ∷ 0x22 ∷ 0x20 ∷ 1 ∷ 0x40 ∷ 43 ∷ 0x55 ∷ 0x03 ∷ 0x01 ∷ 64 ∷ 0x13 ∷ 0x03 ∷ 19 ∷ [])
    ++ (1 ∷ 0x50 ∷ 125 ∷ 0x05 ∷ 0x20 ∷ 0x00 ∷ 0x03 ∷ 0x13 ∷ 0x13 ∷ 125 ∷ 0x05 ∷ 0x20 ∷ 0x10 ∷ 0x03 ∷ 0x11 ∷ 0x03 ∷ 6 ∷ 0x20 ∷ 0x45 ∷ 3 ∷ [])

-- FOR1, 176, BEAM, and the chunks AtU8 of 21 bytes, Code of 70, ImpT of 28, ExpT of 16
abbrev pub file_bytes : List ℕ
file_bytes =
    codes "FOR1" ++ (0 ∷ 0 ∷ 0 ∷ 176 ∷ []) ++ codes "BEAM"
    ++ (codes "AtU8" ++ (0 ∷ 0 ∷ 0 ∷ 21 ∷ 0 ∷ 0 ∷ 0 ∷ 5 ∷ []) ++ (1 ∷ codes "t") ++ (3 ∷ codes "sum") ++ (6 ∷ codes "erlang") ++ (1 ∷ codes "+") ++ (1 ∷ codes "-") ++ (0 ∷ 0 ∷ 0 ∷ []))
    ++ (codes "Code" ++ (0 ∷ 0 ∷ 0 ∷ 70 ∷ []) ++ code_bytes ++ (0 ∷ 0 ∷ []))
    ++ (codes "ImpT" ++ (0 ∷ 0 ∷ 0 ∷ 28 ∷ 0 ∷ 0 ∷ 0 ∷ 2 ∷ []) ++ (0 ∷ 0 ∷ 0 ∷ 3 ∷ 0 ∷ 0 ∷ 0 ∷ 4 ∷ 0 ∷ 0 ∷ 0 ∷ 2 ∷ []) ++ (0 ∷ 0 ∷ 0 ∷ 3 ∷ 0 ∷ 0 ∷ 0 ∷ 5 ∷ 0 ∷ 0 ∷ 0 ∷ 2 ∷ []))
    ++ (codes "ExpT" ++ (0 ∷ 0 ∷ 0 ∷ 16 ∷ 0 ∷ 0 ∷ 0 ∷ 1 ∷ []) ++ (0 ∷ 0 ∷ 0 ∷ 2 ∷ 0 ∷ 0 ∷ 0 ∷ 1 ∷ 0 ∷ 0 ∷ 0 ∷ 2 ∷ []))
