-- Listings as text: the one text that is printed of a listing (the compiler's .S files). A text is its bytes in UTF-8.
use Rattle.std.specs.Prelude.{ℕ, Bool, true, false, List, [], ◌∷◌, ◌++◌, Option, Some, None, is_some, unwrap_or, if◌then◌else◌, codes}
use Rattle.std.specs.Fmt.{signed_decimal, decimal}
use Rattle.beam_term.specs.Prelude.{TermValue, int_term, atom_term, nil_term}
use Rattle.beam_model.specs.declared.function.Export.{Export}
use Rattle.beam_model.specs.declared.function.Import.{Import}
use Rattle.beam_model.specs.declared.instruction.Argument.{Argument}
use Rattle.beam_model.specs.declared.instruction.Argument.TheVariants as argument
use Rattle.beam_model.specs.declared.instruction.Operand.{Operand}
use Rattle.beam_model.specs.declared.instruction.Operand.TheVariants as operand
use Rattle.beam_model.specs.declared.instruction.Instruction.{Instruction}
use Rattle.beam_model.specs.declared.opcode.Opcode.{Opcode}
use Rattle.beam_model.specs.declared.opcode.Opcode.TheVariants as op
use Rattle.beam_model.specs.declared.shape.Shape.{Shape}
use Rattle.beam_model.specs.declared.shape.Shape.TheVariants as shape
use Rattle.beam_model.specs.Listing.{Listing, label_of}
use Rattle.beam_model.specs.ListingShapes.{shape_of}
use Rattle.beam_model.specs.Loadable.{atom_in, number_in}
use Rattle.beam_model.specs.Opcodes.{name_of}
use Rattle.beam_model.specs.Text.{atom_text, text_of}

-- ---- operands

-- a name with one value, in braces
abbrev pub tagged : List ℕ → List ℕ → List ℕ
tagged name value = codes "{" ++ name ++ codes "," ++ value ++ codes "}"

-- a pair, a tuple, a pid and a reference are literals
abbrev pub term_text : TermValue → List ℕ
term_text (int_term n) = tagged (codes "integer") (signed_decimal n)
term_text (atom_term text) = tagged (codes "atom") (atom_text text)
term_text nil_term = codes "nil"
term_text t = tagged (codes "literal") (text_of t)

abbrev pub argument_text : Argument → List ℕ
argument_text (argument.Term t) = term_text t
argument_text (argument.X n) = tagged (codes "x") (decimal n)
argument_text (argument.Y n) = tagged (codes "y") (decimal n)
argument_text (argument.Label n) = tagged (codes "f") (decimal n)
argument_text (argument.Number n) = decimal n

-- the texts of the elements, the first after this mark, and each other one after a comma
abbrev pub arguments_text : List ℕ → List Argument → List ℕ
arguments_text before [] = []
arguments_text before (a ∷ rest) = before ++ argument_text a ++ arguments_text (codes ",") rest

abbrev pub import_text : Import → List ℕ
import_text i = codes "{extfunc," ++ atom_text i.«module» ++ codes "," ++ atom_text i.function ++ codes "," ++ decimal i.arity ++ codes "}"

abbrev pub list_text : List Argument → List ℕ
list_text as' = codes "{list,[" ++ arguments_text [] as' ++ codes "]}"

abbrev pub operand_text : Operand → List ℕ
operand_text (operand.One a) = argument_text a
operand_text (operand.Import i) = import_text i
operand_text (operand.List as') = list_text as'

-- the texts of the elements, the first after this mark, and each other one after a comma
abbrev pub operands_text : List ℕ → List Operand → List ℕ
operands_text before [] = []
operands_text before (o ∷ rest) = before ++ operand_text o ++ operands_text (codes ",") rest

-- arguments, the first after this text and each other one after a comma, a closing bracket, and the last operand, the destination
abbrev pub call_text : List ℕ → List Operand → List ℕ
call_text before [] = codes "]"
call_text before (dest ∷ []) = codes "]," ++ operand_text dest
call_text before (o ∷ p ∷ rest) = before ++ operand_text o ++ call_text (codes ",") (p ∷ rest)

-- ---- instructions

-- a name and its operands, without operands the name alone
abbrev pub plain_text : List ℕ → List Operand → List ℕ
plain_text name [] = name
plain_text name (o ∷ rest) = codes "{" ++ name ++ operands_text (codes ",") (o ∷ rest) ++ codes "}"

abbrev pub line_text : List ℕ
line_text = codes "{line,[]}"

abbrev pub raise_text : List Operand → List ℕ
raise_text operands = codes "{raise,[" ++ operands_text [] operands ++ codes "]}"

abbrev pub test_text : List ℕ → List Operand → List ℕ
test_text name [] = plain_text name []
test_text name (label ∷ rest) = codes "{test," ++ name ++ codes "," ++ operand_text label ++ codes ",[" ++ operands_text [] rest ++ codes "]}"

abbrev pub bif0_text : List ℕ → List Operand → List ℕ
bif0_text name (operand.Import i ∷ rest) = codes "{bif," ++ atom_text i.function ++ codes ",{f,0},[" ++ call_text [] rest ++ codes "}"
bif0_text name operands = plain_text name operands

-- a native and its fail label, after this text
abbrev pub native_text : List ℕ → Import → Operand → List ℕ
native_text before i label = before ++ atom_text i.function ++ codes "," ++ operand_text label

abbrev pub bif_text : List ℕ → List Operand → List ℕ
bif_text name (label ∷ operand.Import i ∷ rest) =
    native_text (codes "{bif,") i label ++ codes ",[" ++ call_text [] rest ++ codes "}"
bif_text name operands = plain_text name operands

abbrev pub gc_bif_text : List ℕ → List Operand → List ℕ
gc_bif_text name (label ∷ live ∷ operand.Import i ∷ rest) =
    native_text (codes "{gc_bif,") i label ++ codes "," ++ operand_text live ++ codes ",[" ++ call_text [] rest ++ codes "}"
gc_bif_text name operands = plain_text name operands

-- an instruction of this name by its shape; where the operands don't fit the shape, in the plain way
abbrev pub shape_text : Shape → List ℕ → List Operand → List ℕ
shape_text shape.Plain name operands = plain_text name operands
shape_text shape.Line name operands = line_text
shape_text shape.Test name operands = test_text name operands
shape_text shape.Bif0 name operands = bif0_text name operands
shape_text shape.Bif name operands = bif_text name operands
shape_text shape.GcBif name operands = gc_bif_text name operands
shape_text shape.Raise name operands = raise_text operands

-- the one text of an instruction, without its full stop
abbrev pub instruction_text : Instruction → List ℕ
instruction_text i = shape_text (shape_of i.opcode) (atom_text (name_of i.opcode)) i.operands

-- ---- functions

-- a full stop and a line feed
abbrev pub stop : List ℕ
stop = 46 ∷ 10 ∷ []

abbrev pub is_line : Opcode → Bool
is_line op.Line = true
is_line _ = false

-- the instructions without the lines that stand in front of them
abbrev pub after_leading_lines : List Instruction → List Instruction
after_leading_lines [] = []
after_leading_lines (i ∷ rest) = if is_line i.opcode then after_leading_lines rest else i ∷ rest

-- the label in front, or 0
abbrev pub front_label_or_zero : List Instruction → ℕ
front_label_or_zero [] = 0
front_label_or_zero (i ∷ rest) = unwrap_or (label_of i) 0

abbrev pub function_line : List ℕ → ℕ → ℕ → List ℕ
function_line name arity entry = codes "{function," ++ atom_text name ++ codes "," ++ decimal arity ++ codes "," ++ decimal entry ++ codes "}" ++ stop

abbrev pub named_text : Option (List ℕ) → Option ℕ → ℕ → List ℕ
named_text (Some name) (Some arity) entry = function_line name arity entry
named_text _ _ entry = []

-- the line of a function with these operands of func_info
abbrev pub informed_text : List Operand → ℕ → List ℕ
informed_text (m ∷ f ∷ a ∷ []) entry = named_text (atom_in f) (number_in a) entry
informed_text _ entry = []

abbrev pub is_func_info : Opcode → Bool
is_func_info op.FuncInfo = true
is_func_info _ = false

-- the line of a function whose func_info stands in front
abbrev pub function_line_at : List Instruction → List ℕ
function_line_at [] = []
function_line_at (i ∷ rest) = if is_func_info i.opcode then informed_text i.operands (front_label_or_zero rest) else []

-- the line of a function before its first label, which is followed by lines and func_info
abbrev pub before_text : Instruction → List Instruction → List ℕ
before_text i rest = if is_some (label_of i) then function_line_at (after_leading_lines rest) else []

-- ---- listings

abbrev pub instructions_text : List Instruction → List ℕ
instructions_text [] = []
instructions_text (i ∷ rest) = before_text i rest ++ instruction_text i ++ stop ++ instructions_text rest

abbrev pub export_text : Export → List ℕ
export_text e = tagged (atom_text e.name) (decimal e.arity)

-- the texts of the elements, the first after this mark, and each other one after a comma
abbrev pub exports_text : List ℕ → List Export → List ℕ
exports_text before [] = []
exports_text before (e ∷ rest) = before ++ export_text e ++ exports_text (codes ",") rest

abbrev pub module_line : List ℕ → List ℕ
module_line name = tagged (codes "module") (atom_text name) ++ stop

abbrev pub exports_line : List Export → List ℕ
exports_line es = codes "{exports,[" ++ exports_text [] es ++ codes "]}" ++ stop

abbrev pub labels_lines : ℕ → List ℕ
labels_lines count = codes "{attributes,[]}" ++ stop ++ tagged (codes "labels") (decimal count) ++ stop

abbrev pub heads_text : Listing → List ℕ
heads_text l = module_line l.name ++ exports_line l.exports ++ labels_lines l.label_count

-- the one text that is printed of a listing
unfoldable pub listing_text : Listing → List ℕ
listing_text l = heads_text l ++ instructions_text l.instructions
