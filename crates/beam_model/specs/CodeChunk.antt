-- The Code chunk of a BEAM file: a head, and instructions up to int_code_end.
use Rattle.std.specs.Prelude.{ℕ, zero, suc, ◌+◌, ◌-◌, ◌==◌, nat_lt, if◌then◌else◌, List, [], ◌∷◌, length, drop, slice_get, Option, Some, None, option_map, Result, Ok, Err, Bool, true, false}
use Rattle.byteorder.specs.Endian.{big_number}
use Rattle.beam_term.specs.Prelude.{TermValue, int_term, atom_term, nil_term}
use Rattle.beam_model.specs.declared.compact.Compact.{Compact}
use Rattle.beam_model.specs.declared.compact.Compact.TheVariants as compact
use Rattle.beam_model.specs.declared.compact.CompactOperand.{CompactOperand}
use Rattle.beam_model.specs.declared.compact.CompactOperand.TheVariants as compact_operand
use Rattle.beam_model.specs.declared.function.Import.{Import}
use Rattle.beam_model.specs.declared.instruction.Argument.{Argument}
use Rattle.beam_model.specs.declared.instruction.Argument.TheVariants as argument
use Rattle.beam_model.specs.declared.instruction.Operand.{Operand}
use Rattle.beam_model.specs.declared.instruction.Operand.TheVariants as operand
use Rattle.beam_model.specs.declared.instruction.Instruction.{Instruction}
use Rattle.beam_model.specs.declared.opcode.Opcode.{Opcode}
use Rattle.beam_model.specs.declared.opcode.Opcode.TheVariants as op
use Rattle.beam_model.specs.declared.opcode.Kind.{Kind}
use Rattle.beam_model.specs.declared.opcode.Kind.TheVariants as kind
use Rattle.beam_model.specs.Opcodes.{kinds_of, opcode_of}
use Rattle.beam_model.specs.Compact.{OperandFault, ◌>>=◌, operand_at}
use Rattle.beam_model.specs.Compact as operand_faults

-- the content of a Code chunk
pub record CodeParts : Type 0 where
  pub label_count : ℕ
  pub function_count : ℕ
  pub instructions : List Instruction

-- why bytes spell no Code chunk; positions count its bytes
pub data CodeFault : Type 0 where
  -- the number, and where it stands
  unsupported_opcode : ℕ → ℕ → CodeFault
  -- where the operand begins
  bad_operand : ℕ → CodeFault
  truncated : CodeFault

-- ---- operands, by the letter that the opcode table gives them

-- the atom of an index, counted from 1
abbrev pub argument_of_atom : List (List ℕ) → ℕ → Option Argument
argument_of_atom atoms zero = None
argument_of_atom atoms (suc n) = option_map (λ text. argument.Term (atom_term text)) (slice_get atoms n)

-- the literal of an index, counted from 0
abbrev pub argument_of_literal : List TermValue → ℕ → Option Argument
argument_of_literal literals n = option_map (λ t. argument.Term t) (slice_get literals n)

-- S: a register, or a term
abbrev pub argument_of_source : List (List ℕ) → List TermValue → Compact → Option Argument
argument_of_source atoms literals (compact.X n) = Some (argument.X n)
argument_of_source atoms literals (compact.Y n) = Some (argument.Y n)
argument_of_source atoms literals (compact.Integer z) = Some (argument.Term (int_term z))
argument_of_source atoms literals compact.Nil = Some (argument.Term nil_term)
argument_of_source atoms literals (compact.Atom n) = argument_of_atom atoms n
argument_of_source atoms literals (compact.Literal n) = argument_of_literal literals n
argument_of_source atoms literals (compact.Number n) = None
argument_of_source atoms literals (compact.Label n) = None

-- a member of L: a source, a number or a label
abbrev pub argument_of_member : List (List ℕ) → List TermValue → Compact → Option Argument
argument_of_member atoms literals (compact.Number n) = Some (argument.Number n)
argument_of_member atoms literals (compact.Label n) = Some (argument.Label n)
argument_of_member atoms literals x = argument_of_source atoms literals x

-- what an operand that is no list means under a letter: U, F, A, S, D
abbrev pub argument_of : Kind → List (List ℕ) → List TermValue → Compact → Option Argument
argument_of kind.Number atoms literals (compact.Number n) = Some (argument.Number n)
argument_of kind.Arity atoms literals (compact.Number n) = Some (argument.Number n)
argument_of kind.FrameSize atoms literals (compact.Number n) = Some (argument.Number n)
argument_of kind.Label atoms literals (compact.Label n) = Some (argument.Label n)
argument_of kind.FailLabel atoms literals (compact.Label n) = Some (argument.Label n)
argument_of kind.Atom atoms literals (compact.Atom n) = argument_of_atom atoms n
argument_of kind.Source atoms literals x = argument_of_source atoms literals x
argument_of kind.Register atoms literals (compact.X n) = Some (argument.X n)
argument_of kind.Register atoms literals (compact.Y n) = Some (argument.Y n)
argument_of _ atoms literals x = None

-- E: an index, counted from 0
abbrev pub import_of_index : List Import → Compact → Option Import
import_of_index imports (compact.Number n) = slice_get imports n
import_of_index imports _ = None

-- all members, or none where one has no meaning
abbrev pub in_front : Option Argument → Option (List Argument) → Option (List Argument)
in_front (Some x) (Some xs) = Some (x ∷ xs)
in_front _ _ = None

unfoldable pub members_of : List (List ℕ) → List TermValue → List Compact → Option (List Argument)
members_of atoms literals [] = Some []
members_of atoms literals (x ∷ xs) = in_front (argument_of_member atoms literals x) (members_of atoms literals xs)

-- what an operand means under its letter, with these atoms, imports and literals
unfoldable pub meaning_of : Kind → List (List ℕ) → List Import → List TermValue → CompactOperand → Option Operand
meaning_of kind.Import atoms imports literals (compact_operand.One x) = option_map (λ i. operand.Import i) (import_of_index imports x)
meaning_of (kind.Native arity) atoms imports literals (compact_operand.One x) = option_map (λ i. operand.Import i) (import_of_index imports x)
meaning_of kind.List atoms imports literals (compact_operand.List xs) = option_map (λ xs. operand.List xs) (members_of atoms literals xs)
meaning_of letter atoms imports literals (compact_operand.One x) = option_map (λ x. operand.One x) (argument_of letter atoms literals x)
meaning_of letter atoms imports literals (compact_operand.List xs) = None

-- ---- reading, from a position to the next

abbrev pub operand_fault_at : ℕ → OperandFault → CodeFault
operand_fault_at at operand_faults.truncated = truncated
operand_fault_at at _ = bad_operand at

-- an operand as it is spelled, and the position after it
abbrev pub position_after : List ℕ → ℕ → Result (CompactOperand × List ℕ) OperandFault → Result (CompactOperand × ℕ) CodeFault
position_after code at (Ok x) = Ok (x.0, length code - length x.1)
position_after code at (Err e) = Err (operand_fault_at at e)

unfoldable pub spelled_at : List ℕ → ℕ → Result (CompactOperand × ℕ) CodeFault
spelled_at code at = position_after code at (operand_at (drop at code))

-- the value, if there is one, or a bad operand at this position
abbrev pub or_bad_operand : {A : Type 0} → ℕ → Option A → Result A CodeFault
or_bad_operand at None = Err (bad_operand at)
or_bad_operand at (Some x) = Ok x

-- one operand
unfoldable pub meant_at : List (List ℕ) → List Import → List TermValue → List ℕ → Kind → ℕ → Result (Operand × ℕ) CodeFault
meant_at atoms imports literals code letter at = do
  spelled ← spelled_at code at
  meant ← or_bad_operand at (meaning_of letter atoms imports literals spelled.0)
  Ok (meant, spelled.1)

-- the operands of these letters
unfoldable pub operands_at : List (List ℕ) → List Import → List TermValue → List ℕ → List Kind → ℕ → Result (List Operand × ℕ) CodeFault
operands_at atoms imports literals code [] at = Ok ([], at)
operands_at atoms imports literals code (letter ∷ letters) at = do
  first ← meant_at atoms imports literals code letter at
  others ← operands_at atoms imports literals code letters first.1
  Ok (first.0 ∷ others.0, others.1)

abbrev pub or_unsupported_opcode : ℕ → ℕ → Option Opcode → Result Opcode CodeFault
or_unsupported_opcode at n None = Err (unsupported_opcode n at)
or_unsupported_opcode at n (Some opcode) = Ok opcode

abbrev pub opcode_in : ℕ → Option ℕ → Result Opcode CodeFault
opcode_in at None = Err truncated
opcode_in at (Some n) = or_unsupported_opcode at n (opcode_of n)

-- the opcode at a position
unfoldable pub opcode_at : List ℕ → ℕ → Result Opcode CodeFault
opcode_at code at = opcode_in at (slice_get code at)

abbrev pub is_end : Opcode → Bool
is_end op.IntCodeEnd = true
is_end _ = false

-- a line's operand is no part of a listing, in which it stands as 0
abbrev pub listed_operands : Opcode → List Operand → List Operand
listed_operands op.Line operands = operand.One (argument.Number 0) ∷ []
listed_operands _ operands = operands

-- an instruction after its opcode
unfoldable pub instruction_after_opcode : List (List ℕ) → List Import → List TermValue → List ℕ → Opcode → ℕ → Result (Instruction × ℕ) CodeFault
instruction_after_opcode atoms imports literals code opcode at = do
  operands ← operands_at atoms imports literals code (kinds_of opcode) at
  Ok (record { opcode = opcode; operands = listed_operands opcode operands.0 }, operands.1)

-- The instructions from a position up to int_code_end, n at most: a chunk of n bytes has fewer than n.
unfoldable pub instructions_at : List (List ℕ) → List Import → List TermValue → List ℕ → ℕ → ℕ → Result (List Instruction) CodeFault
instructions_at atoms imports literals code zero at = Err truncated
instructions_at atoms imports literals code (suc n) at = do
  opcode ← opcode_at code at
  if is_end opcode then Ok [] else (do
    first ← instruction_after_opcode atoms imports literals code opcode (at + 1)
    others ← instructions_at atoms imports literals code n first.1
    Ok (first.0 ∷ others))

-- a number of four bytes
unfoldable pub word_at : List ℕ → ℕ → Result ℕ CodeFault
word_at code at = if nat_lt (length code) (at + 4) then Err truncated else Ok (big_number 4 (drop at code))

-- a number of four bytes that has to be this one
unfoldable pub expected_at : List ℕ → ℕ → ℕ → Result ℕ CodeFault
expected_at code at n = do
  word ← word_at code at
  if word == n then Ok word else Err (bad_operand at)

-- The parts of a Code chunk: the size of the head, which is 16, the format, which is 0, the greatest opcode, which
-- isn't looked at, how many labels and functions there are, and the instructions.
unfoldable pub code_of : List (List ℕ) → List Import → List TermValue → List ℕ → Result CodeParts CodeFault
code_of atoms imports literals code = do
  size ← expected_at code 0 16
  format ← expected_at code 4 0
  greatest ← word_at code 8
  labels ← word_at code 12
  functions ← word_at code 16
  instructions ← instructions_at atoms imports literals code (length code) 20
  Ok (record { label_count = labels; function_count = functions; instructions = instructions })
