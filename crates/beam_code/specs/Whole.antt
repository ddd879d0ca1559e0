-- Operands that are read at once: of one byte, those that name no table or an import; of two or three, numbers and labels.
use Rattle.std.specs.Prelude.{ℕ, ◌+◌, ◌*◌, ◌/◌, ◌%◌, ◌==◌, pos, nat_lt, if◌then◌else◌, List, ◌∷◌, slice_get, Option, Some, None, option_map}
use Rattle.beam_model.specs.declared.function.Import.{Import}
use Rattle.beam_model.specs.declared.instruction.Argument.{Argument}
use Rattle.beam_model.specs.declared.opcode.Kind.{Kind}
use Rattle.beam_term.specs.Prelude.{int_term}
use Rattle.beam_model.specs.declared.instruction.Argument.TheVariants as argument
use Rattle.beam_model.specs.declared.opcode.Kind.TheVariants as kind

-- a number, a register and a label, by the low half of a byte
abbrev pub number_of_byte : ℕ → Option Argument
number_of_byte first = if first % 16 == 0 then Some (argument.Number (first / 16)) else None

abbrev pub register_of_byte : ℕ → Option Argument
register_of_byte first = if first % 16 == 3 then Some (argument.X (first / 16)) else (if first % 16 == 4 then Some (argument.Y (first / 16)) else None)

abbrev pub label_of_byte : ℕ → Option Argument
label_of_byte first = if first % 16 == 5 then Some (argument.Label (first / 16)) else None

-- the meaning of a byte under its letter; None where it spells no whole operand, or an index of a table
abbrev pub argument_of_byte : Kind → ℕ → Option Argument
argument_of_byte kind.Number first = number_of_byte first
argument_of_byte kind.Arity first = number_of_byte first
argument_of_byte kind.FrameSize first = number_of_byte first
argument_of_byte kind.Source first = if first % 16 == 1 then Some (argument.Term (int_term (pos (first / 16)))) else register_of_byte first
argument_of_byte kind.Register first = register_of_byte first
argument_of_byte kind.Label first = label_of_byte first
argument_of_byte kind.FailLabel first = label_of_byte first
argument_of_byte _ first = None

-- the import that a byte names under a letter of imports
abbrev pub numbered_import : List Import → ℕ → Option Import
numbered_import imports first = if first % 16 == 0 then slice_get imports (first / 16) else None

abbrev pub import_of_byte : Kind → List Import → ℕ → Option Import
import_of_byte kind.Import imports first = numbered_import imports first
import_of_byte (kind.Native arity) imports first = numbered_import imports first
import_of_byte _ imports first = None

-- the number that two bytes spell under a tag, bits 7 to 5 of the first on top of the second
abbrev pub number_in_two : ℕ → List ℕ → Option ℕ
number_in_two tag (first ∷ second ∷ bytes) = if first % 32 == tag + 8 then Some (first / 32 * 256 + second) else None
number_in_two tag _ = None

-- the number that three bytes spell, the second on top of the third, where it has no sign bit
abbrev pub number_in_three : ℕ → List ℕ → Option ℕ
number_in_three tag (first ∷ second ∷ third ∷ bytes) = if first == tag + 24 then (if nat_lt second 128 then Some (second * 256 + third) else None) else None
number_in_three tag _ = None

-- a number with the count of its bytes
abbrev pub two_or_three : Option ℕ → Option ℕ → Option (ℕ × ℕ)
two_or_three (Some n) other = Some (n, 2)
two_or_three None other = option_map (λ n. (n, 3)) other

abbrev pub wide_number : ℕ → List ℕ → Option (ℕ × ℕ)
wide_number tag bytes = two_or_three (number_in_two tag bytes) (number_in_three tag bytes)

abbrev pub wide_label : List ℕ → Option (Argument × ℕ)
wide_label bytes = option_map (λ p. (argument.Label p.0, p.1)) (wide_number 5 bytes)

-- what two or three bytes mean under a letter of numbers or labels, and how many they are
abbrev pub argument_of_bytes : Kind → List ℕ → Option (Argument × ℕ)
argument_of_bytes kind.Number bytes = option_map (λ p. (argument.Number p.0, p.1)) (wide_number 0 bytes)
argument_of_bytes kind.Label bytes = wide_label bytes
argument_of_bytes kind.FailLabel bytes = wide_label bytes
argument_of_bytes _ bytes = None
