-- Assembling: the file that is written for a listing. Its atoms, imports and literals are numbered by their first uses.
use Rattle.std.specs.Prelude.{◌≡◌, ℕ, ◌+◌, ◌^◌, ◌≤◌, ◌==◌, ◌&&◌, nat_lt, nat_le, max, length, Bool, if◌then◌else◌, List, [], ◌∷◌, ◌++◌, map, fold, position, Option, Some, None, option_map, option_and_then}
use Rattle.std.specs.Result.{result_ok}
use Rattle.std.specs.List.{list_any, list_all}
use Rattle.byteorder.specs.Endian.{big_bytes}
use Rattle.beam_term.specs.Prelude.{TermValue, int_term, atom_term, nil_term, term_eq}
use Rattle.beam_model.specs.declared.compact.Compact.{Compact}
use Rattle.beam_model.specs.declared.compact.Compact.TheVariants as compact
use Rattle.beam_model.specs.declared.compact.CompactOperand.{CompactOperand}
use Rattle.beam_model.specs.declared.compact.CompactOperand.TheVariants as compact_operand
use Rattle.beam_model.specs.declared.function.Import.{Import}
use Rattle.beam_model.specs.declared.function.Export.{Export}
use Rattle.beam_model.specs.declared.instruction.Argument.{Argument}
use Rattle.beam_model.specs.declared.instruction.Argument.TheVariants as argument
use Rattle.beam_model.specs.declared.instruction.Operand.{Operand}
use Rattle.beam_model.specs.declared.instruction.Operand.TheVariants as operand
use Rattle.beam_model.specs.declared.instruction.Instruction.{Instruction}
use Rattle.beam_model.specs.Listing.{Listing}
use Rattle.beam_model.specs.SameText.{same_text}
use Rattle.beam_model.specs.Opcodes.{number_of}
use Rattle.beam_model.specs.Compact.{spelling}
use Rattle.beam_model.specs.CodeChunk.{CodeParts, listed_operands}
use Rattle.beam_model.specs.Tables.{Tables, tables_bytes, form_with}
use Rattle.beam_model.specs.Form.{form_bytes}

-- ---- numbers by first use

-- the atoms, imports and literals of a listing, each once, in the order of their first uses
pub record Numbering : Type 0 where
  pub atoms : List (List ℕ)
  pub imports : List Import
  pub literals : List TermValue

-- a list with a value put at its end, unless the value is in the list
abbrev pub noted : {X : Type 0} → (X → X → Bool) → List X → X → List X
noted same xs x = if list_any (same x) xs then xs else xs ++ x ∷ []

abbrev pub same_import : Import → Import → Bool
same_import i j = same_text i.«module» j.«module» && (same_text i.function j.function && i.arity == j.arity)

abbrev pub with_atom : Numbering → List ℕ → Numbering
with_atom n text = record n { atoms = noted same_text n.atoms text }

-- an import names two atoms: its module, and its function
abbrev pub with_import : Numbering → Import → Numbering
with_import n i = record { atoms = noted same_text (noted same_text n.atoms i.«module») i.function; imports = noted same_import n.imports i; literals = n.literals }

-- integers and nil need no number, and an atom inside a literal is no use of it
abbrev pub with_term : Numbering → TermValue → Numbering
with_term n (int_term z) = n
with_term n (atom_term text) = with_atom n text
with_term n nil_term = n
with_term n literal = record n { literals = noted term_eq n.literals literal }

abbrev pub with_argument : Numbering → Argument → Numbering
with_argument n (argument.Term t) = with_term n t
with_argument n _ = n

abbrev pub with_operand : Numbering → Operand → Numbering
with_operand n (operand.One a) = with_argument n a
with_operand n (operand.Import i) = with_import n i
with_operand n (operand.List as') = fold with_argument n as'

abbrev pub with_instruction : Numbering → Instruction → Numbering
with_instruction n i = fold with_operand n i.operands

-- the module's name is the first atom
abbrev pub numbering_of : Listing → Numbering
numbering_of l = fold with_instruction (record { atoms = l.name ∷ []; imports = []; literals = [] }) l.instructions

-- ---- operands

-- a number that fits in four bytes
abbrev pub word : ℕ → Option ℕ
word n = if nat_lt n (2 ^ 32) then Some n else None

-- atoms are counted from 1
abbrev pub atom_index : Numbering → List ℕ → Option ℕ
atom_index n text = option_and_then (λ place. word (place + 1)) (position (same_text text) n.atoms)

-- imports are counted from 0
abbrev pub import_index : Numbering → Import → Option ℕ
import_index n i = option_and_then word (position (same_import i) n.imports)

-- literals are counted from 0
abbrev pub literal_index : Numbering → TermValue → Option ℕ
literal_index n t = option_and_then word (position (term_eq t) n.literals)

-- pairs, tuples, pids and references are literals
unfoldable pub compact_term : Numbering → TermValue → Option Compact
compact_term n (int_term z) = Some (compact.Integer z)
compact_term n (atom_term text) = option_map (λ index. compact.Atom index) (atom_index n text)
compact_term n nil_term = Some compact.Nil
compact_term n literal = option_map (λ index. compact.Literal index) (literal_index n literal)

unfoldable pub compact_argument : Numbering → Argument → Option Compact
compact_argument n (argument.Term t) = compact_term n t
compact_argument n (argument.X x) = option_map (λ x. compact.X x) (word x)
compact_argument n (argument.Y y) = option_map (λ y. compact.Y y) (word y)
compact_argument n (argument.Label f) = option_map (λ f. compact.Label f) (word f)
compact_argument n (argument.Number u) = option_map (λ u. compact.Number u) (word u)

abbrev pub compact_before : Option Compact → Option (List Compact) → Option (List Compact)
compact_before (Some x) (Some xs) = Some (x ∷ xs)
compact_before _ _ = None

unfoldable pub compact_arguments : Numbering → List Argument → Option (List Compact)
compact_arguments n [] = Some []
compact_arguments n (a ∷ as') = compact_before (compact_argument n a) (compact_arguments n as')

-- an operand as a file spells it, with the numbers of its atoms, imports and literals
unfoldable pub compact_of : Numbering → Operand → Option CompactOperand
compact_of n (operand.One a) = option_map (λ x. compact_operand.One x) (compact_argument n a)
compact_of n (operand.Import i) = option_map (λ index. compact_operand.One (compact.Number index)) (import_index n i)
compact_of n (operand.List as') = option_map (λ xs. compact_operand.List xs) (compact_arguments n as')

-- ---- the Code chunk

-- two byte strings, one after the other, where both are there
abbrev pub both : Option (List ℕ) → Option (List ℕ) → Option (List ℕ)
both (Some bytes) (Some more) = Some (bytes ++ more)
both _ _ = None

unfoldable pub operand_bytes : Numbering → Operand → Option (List ℕ)
operand_bytes n o = option_and_then (λ x. result_ok (spelling x)) (compact_of n o)

unfoldable pub operands_bytes : Numbering → List Operand → Option (List ℕ)
operands_bytes n [] = Some []
operands_bytes n (o ∷ os) = both (operand_bytes n o) (operands_bytes n os)

-- the opcode's number and the operands; a line is written with the number 0
unfoldable pub instruction_bytes : Numbering → Instruction → Option (List ℕ)
instruction_bytes n i = both (Some (number_of i.opcode ∷ [])) (operands_bytes n (listed_operands i.opcode i.operands))

unfoldable pub instructions_bytes : Numbering → List Instruction → Option (List ℕ)
instructions_bytes n [] = Some []
instructions_bytes n (i ∷ is) = both (instruction_bytes n i) (instructions_bytes n is)

-- the greatest opcode that is used; int_code_end, 3, is used in every chunk
abbrev pub greatest_opcode : List Instruction → ℕ
greatest_opcode is = fold (λ greatest i. max greatest (number_of i.opcode)) 3 is

-- numbers of four bytes
unfoldable pub words_bytes : List ℕ → Option (List ℕ)
words_bytes [] = Some []
words_bytes (n ∷ ns) = both (option_map (λ n. big_bytes 4 n) (word n)) (words_bytes ns)

-- the size of the head, the format, the greatest opcode, the counts, the instructions, and int_code_end
unfoldable pub code_bytes : Numbering → CodeParts → Option (List ℕ)
code_bytes n p =
    both (words_bytes (16 ∷ 0 ∷ greatest_opcode p.instructions ∷ p.label_count ∷ p.function_count ∷ []))
    (both (instructions_bytes n p.instructions) (Some (3 ∷ [])))

-- ---- the file

abbrev pub tables_with : Numbering → List Export → Tables
tables_with n exports = record { atoms = n.atoms; imports = n.imports; exports = exports; literals = n.literals }

abbrev pub code_parts : Listing → CodeParts
code_parts l = record { label_count = l.label_count; function_count = l.function_count; instructions = l.instructions }

-- the file of a listing with these numbers, if each of them, and each size, fits where it is written
unfoldable pub file_with : Numbering → Listing → Option (List ℕ)
file_with n l =
    option_and_then (λ chunks. option_map (λ code. form_bytes (form_with chunks code)) (code_bytes n (code_parts l)))
    (result_ok (tables_bytes (tables_with n l.exports)))

abbrev pub file_of : Listing → Option (List ℕ)
file_of l = file_with (numbering_of l) l

-- a file has at most 65,535 atoms
abbrev pub are_few_atoms : Listing → Bool
are_few_atoms l = nat_le (length (numbering_of l).atoms) 65535

-- an atom of a file has at most 255 bytes
abbrev pub are_short_atoms : Listing → Bool
are_short_atoms l = list_all (λ text. nat_le (length text) 255) (numbering_of l).atoms

-- a file has at most 8,388,608 bytes
abbrev pub HasFile : Listing → List ℕ → Type 0
HasFile l bytes = (file_of l ≡ Some bytes) × (length bytes ≤ 8388608)

-- ---- the listing that the file spells

-- an instruction without the number of a line, which isn't written
abbrev pub without_line_number : Instruction → Instruction
without_line_number i = record i { operands = listed_operands i.opcode i.operands }

abbrev pub without_line_numbers : Listing → Listing
without_line_numbers l = record l { instructions = map without_line_number l.instructions }
