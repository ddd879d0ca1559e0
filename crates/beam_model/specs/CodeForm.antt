-- Which Code chunk spells which instructions, by what stands where (the BEAM file format: the Code chunk; genop.tab).
use Rattle.std.specs.Prelude.{◌≡◌, ◌≢◌, ℕ, List, [], ◌∷◌, ◌++◌, length, Some}
use Rattle.beam_model.specs.declared.compact.CompactOperand.{CompactOperand}
use Rattle.beam_model.specs.declared.instruction.Operand.{Operand}
use Rattle.beam_model.specs.declared.instruction.Instruction.{Instruction}
use Rattle.beam_model.specs.declared.opcode.Opcode.TheVariants as op
use Rattle.beam_model.specs.declared.opcode.Kind.{Kind}
use Rattle.beam_model.specs.Opcodes.{number_of, kinds_of}
use Rattle.beam_model.specs.CompactForm.{IsSpelling}
use Rattle.beam_model.specs.CodeChunk.{CodeParts, meaning_of, listed_operands}
use Rattle.beam_model.specs.Tables.{Tables}
use Rattle.beam_model.specs.ChunkForm.{IsWord}
use Rattle.beam_model.specs.Sequence.{InSequence}

-- an operand: bytes that spell a compact operand whose meaning under the kind, by the tables, is the operand
pub record IsOperand (t : Tables) (kind : Kind) (operand : Operand) (bytes : List ℕ) : Type 0 where
  pub compact : CompactOperand
  pub spelled : IsSpelling compact bytes
  pub meaning : meaning_of kind t.atoms t.imports t.literals compact ≡ Some operand

-- an operand of each kind, one after the other
abbrev pub AreOperands : Tables → List Kind → List Operand → List ℕ → Type 0
AreOperands t [] [] bytes = bytes ≡ []
AreOperands t (kind ∷ kinds) (operand ∷ operands) bytes =
    (front rest : List ℕ) × (bytes ≡ front ++ rest) × IsOperand t kind operand front × AreOperands t kinds operands rest
AreOperands t _ _ bytes = ⊥

-- an instruction: its opcode's number, which isn't that of int_code_end, and operands of the opcode's kinds; of a line the listing has
-- no operand but 0
pub record IsInstruction (t : Tables) (i : Instruction) (bytes : List ℕ) : Type 0 where
  pub rest : List ℕ
  pub parts : bytes ≡ number_of i.opcode ∷ rest
  pub goes_on : i.opcode ≢ op.IntCodeEnd
  pub operands : List Operand
  pub are_operands : AreOperands t (kinds_of i.opcode) operands rest
  pub in_listing : i.operands ≡ listed_operands i.opcode operands

-- the head's size, 16, the format, 0, the greatest opcode, whose value is ignored, how many labels and functions there are, the
-- instructions, one after the other, and int_code_end; what stands after it is ignored
pub record IsCode (t : Tables) (code : CodeParts) (bytes : List ℕ) : Type 0 where
  pub size : List ℕ
  pub format : List ℕ
  pub greatest : List ℕ
  pub labels : List ℕ
  pub functions : List ℕ
  pub body : List ℕ
  pub after : List ℕ
  pub parts : bytes ≡ size ++ (format ++ (greatest ++ (labels ++ (functions ++ (body ++ (number_of op.IntCodeEnd ∷ after))))))
  pub is_size : IsWord 16 size
  pub is_format : IsWord 0 format
  pub is_greatest : length greatest ≡ 4
  pub is_labels : IsWord code.label_count labels
  pub is_functions : IsWord code.function_count functions
  pub are_instructions : InSequence (IsInstruction t) code.instructions body
