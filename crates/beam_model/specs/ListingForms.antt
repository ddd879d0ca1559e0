-- The forms of a listing, each by its text: heads, functions, instructions and their operands (the compiler's .S files).
use Rattle.std.specs.Prelude.{ℕ, ◌+◌, ◌^◌, Bool, true, false, ℤ, pos, negsuc, List, [], ◌∷◌, ◌++◌, length, ◌==◌, ◌&&◌, ◌||◌, nat_lt, Option, Some, None, Ok, Err, codes, if◌then◌else◌}
use Rattle.beam_term.specs.Prelude.{TermValue, int_term, atom_term, nil_term}
use Rattle.beam_model.specs.declared.function.Import.{Import}
use Rattle.beam_model.specs.declared.function.Signature.{Signature}
use Rattle.beam_model.specs.declared.function.Function.{Function}
use Rattle.beam_model.specs.declared.instruction.Argument.{Argument}
use Rattle.beam_model.specs.declared.instruction.Argument.TheVariants as argument
use Rattle.beam_model.specs.declared.instruction.Operand.{Operand}
use Rattle.beam_model.specs.declared.instruction.Operand.TheVariants as operand
use Rattle.beam_model.specs.declared.instruction.Instruction.{Instruction}
use Rattle.beam_model.specs.declared.item.Item.{Item}
use Rattle.beam_model.specs.declared.item.Item.TheVariants as item
use Rattle.beam_model.specs.declared.opcode.Opcode.{Opcode}
use Rattle.beam_model.specs.declared.opcode.Opcode.TheVariants as op
use Rattle.beam_model.specs.declared.opcode.Kind.{Kind}
use Rattle.beam_model.specs.declared.opcode.Kind.TheVariants as kind
use Rattle.beam_model.specs.declared.shape.Shape.{Shape}
use Rattle.beam_model.specs.declared.shape.Shape.TheVariants as shape
use Rattle.beam_model.specs.Text.{is_digit}
use Rattle.beam_model.specs.SameText.{same_text}
use Rattle.beam_model.specs.ListingShapes.{shape_of}
use Rattle.beam_model.specs.Opcodes.{kinds_of, opcode_of, opcode_named}
use Rattle.beam_model.specs.TextReading.{Reading, integer_at, atom_at, term_at}
use Rattle.beam_model.specs.Forms.{◌>>=◌, alone, tuple_parts, list_parts}

-- ---- whole texts

-- the value that is read, where its text is the whole text
abbrev pub whole_of : {A : Type 0} → Reading A → Option A
whole_of (Ok read) = alone read.0 read.1
whole_of (Err left) = None

unfoldable pub integer_of_text : List ℕ → Option ℤ
integer_of_text text = whole_of (integer_at text)

unfoldable pub atom_of_text : List ℕ → Option (List ℕ)
atom_of_text text = whole_of (atom_at text)

-- the depth is counted in the term alone
unfoldable pub term_of : List ℕ → Option TermValue
term_of text = whole_of (term_at 4096 text)

abbrev pub word_of : ℤ → Option ℕ
word_of (pos n) = if nat_lt n (2 ^ 32) then Some n else None
word_of (negsuc n) = None

-- a number of 32 bits
unfoldable pub number_of_text : List ℕ → Option ℕ
number_of_text text = do
  z ← integer_of_text text
  word_of z

-- ---- tuples with a name in front

-- the name, and the parts after it
abbrev pub headed_by : List (List ℕ) → Option (List ℕ × List (List ℕ))
headed_by (head ∷ part ∷ parts) = do
  name ← atom_of_text head
  Some (name, part ∷ parts)
headed_by _ = None

unfoldable pub headed_of : List ℕ → Option (List ℕ × List (List ℕ))
headed_of text = do
  parts ← tuple_parts text
  headed_by parts

-- the one part after the name
abbrev pub only : List (List ℕ) → Option (List ℕ)
only (part ∷ []) = Some part
only _ = None

-- the part of `{name,part}`
unfoldable pub part_of : List ℕ → List ℕ → Option (List ℕ)
part_of name text = do
  h ← headed_of text
  part ← only h.1
  if same_text h.0 name then Some part else None

-- ---- operands

-- `{x,N}`, `{y,N}`
unfoldable pub plain_register : List ℕ → List (List ℕ) → Option Argument
plain_register name parts = do
  part ← only parts
  n ← number_of_text part
  if same_text name (codes "x") then Some (argument.X n) else if same_text name (codes "y") then Some (argument.Y n) else None

-- `{tr,R,_}` is R: the type of the register is dropped
abbrev pub typed_part : List (List ℕ) → Option (List ℕ)
typed_part (register ∷ about ∷ []) = Some register
typed_part _ = None

unfoldable pub typed_register : List (List ℕ) → Option Argument
typed_register parts = do
  part ← typed_part parts
  h ← headed_of part
  plain_register h.0 h.1

unfoldable pub register_of_parts : List ℕ → List (List ℕ) → Option Argument
register_of_parts name parts = if same_text name (codes "tr") then typed_register parts else plain_register name parts

unfoldable pub register_of_text : List ℕ → Option Argument
register_of_text text = do
  h ← headed_of text
  register_of_parts h.0 h.1

-- `{f,N}`
unfoldable pub label_of_text : List ℕ → Option ℕ
label_of_text text = do
  part ← part_of (codes "f") text
  number_of_text part

-- `{integer,I}`, `{atom,A}`, `{literal,T}`
unfoldable pub term_of_part : List ℕ → List ℕ → Option TermValue
term_of_part name part =
    if same_text name (codes "integer") then (do
      z ← integer_of_text part
      Some (int_term z))
    else if same_text name (codes "atom") then (do
      text ← atom_of_text part
      Some (atom_term text))
    else if same_text name (codes "literal") then term_of part
    else None

unfoldable pub term_source : List ℕ → List (List ℕ) → Option Argument
term_source name parts = do
  part ← only parts
  t ← term_of_part name part
  Some (argument.Term t)

abbrev pub is_register_name : List ℕ → Bool
is_register_name name = same_text name (codes "x") || same_text name (codes "y") || same_text name (codes "tr")

abbrev pub source_of_parts : List ℕ → List (List ℕ) → Option Argument
source_of_parts name parts = if is_register_name name then register_of_parts name parts else term_source name parts

-- `nil`
unfoldable pub nil_source : List ℕ → Option Argument
nil_source text = do
  name ← atom_of_text text
  if same_text name (codes "nil") then Some (argument.Term nil_term) else None

unfoldable pub source_of_text : List ℕ → Option Argument
source_of_text [] = None
source_of_text (c ∷ cs) =
    if c == 123 then (do
      h ← headed_of (c ∷ cs)
      source_of_parts h.0 h.1)
    else nil_source (c ∷ cs)

-- a member of a list operand that stands in braces: a label or a source
unfoldable pub member_of_parts : List ℕ → List (List ℕ) → Option Argument
member_of_parts name parts =
    if same_text name (codes "f") then (do
      part ← only parts
      n ← number_of_text part
      Some (argument.Label n))
    else source_of_parts name parts

abbrev pub number_member : List ℕ → Option Argument
number_member text = do
  n ← number_of_text text
  Some (argument.Number n)

unfoldable pub member_of_text : List ℕ → Option Argument
member_of_text [] = None
member_of_text (c ∷ cs) =
    if c == 123 then (do
      h ← headed_of (c ∷ cs)
      member_of_parts h.0 h.1)
    else if is_digit c then number_member (c ∷ cs)
    else nil_source (c ∷ cs)

-- these members, and then the members that the texts are
unfoldable pub members_from : List Argument → List (List ℕ) → Option (List Argument)
members_from members [] = Some members
members_from members (text ∷ texts) = do
  member ← member_of_text text
  members_from (members ++ member ∷ []) texts

-- `{list,[..]}`
unfoldable pub members_of_text : List ℕ → Option (List Argument)
members_of_text text = do
  part ← part_of (codes "list") text
  parts ← list_parts part
  members_from [] parts

abbrev pub import_of_parts : List ℕ → List (List ℕ) → Option Import
import_of_parts name (m ∷ f ∷ a ∷ []) = do
  «module» ← atom_of_text m
  function ← atom_of_text f
  arity ← number_of_text a
  if same_text name (codes "extfunc") then Some (record { «module» = «module»; function = function; arity = arity }) else None
import_of_parts name _ = None

-- `{extfunc,M,F,A}`
unfoldable pub import_of_text : List ℕ → Option Import
import_of_text text = do
  h ← headed_of text
  import_of_parts h.0 h.1

-- a native stands by its name alone
unfoldable pub native_of : ℕ → List ℕ → Option Import
native_of arity text = do
  name ← atom_of_text text
  Some (record { «module» = codes "erlang"; function = name; arity = arity })

abbrev pub as_one : Option Argument → Option Operand
as_one found = do
  argument ← found
  Some (operand.One argument)

abbrev pub as_import : Option Import → Option Operand
as_import found = do
  import ← found
  Some (operand.Import import)

abbrev pub label_argument : List ℕ → Option Argument
label_argument text = do
  n ← label_of_text text
  Some (argument.Label n)

-- an atom alone, never by `{literal,A}`
unfoldable pub atom_argument : List ℕ → Option Argument
atom_argument text = do
  part ← part_of (codes "atom") text
  name ← atom_of_text part
  Some (argument.Term (atom_term name))

abbrev pub as_list : Option (List Argument) → Option Operand
as_list found = do
  members ← found
  Some (operand.List members)

-- the operand that a text is under its kind
unfoldable pub operand_of_text : Kind → List ℕ → Option Operand
operand_of_text kind.Number text = as_one (number_member text)
operand_of_text kind.Arity text = as_one (number_member text)
operand_of_text kind.FrameSize text = as_one (number_member text)
operand_of_text kind.Label text = as_one (label_argument text)
operand_of_text kind.FailLabel text = as_one (label_argument text)
operand_of_text kind.Atom text = as_one (atom_argument text)
operand_of_text kind.Source text = as_one (source_of_text text)
operand_of_text kind.Register text = as_one (register_of_text text)
operand_of_text kind.Import text = as_import (import_of_text text)
operand_of_text (kind.Native arity) text = as_import (native_of arity text)
operand_of_text kind.List text = as_list (members_of_text text)

-- these operands, and then the operands that the texts are under these kinds
unfoldable pub operands_from : List Operand → List Kind → List (List ℕ) → Option (List Operand)
operands_from operands [] [] = Some operands
operands_from operands (letter ∷ letters) (text ∷ texts) = do
  operand ← operand_of_text letter text
  operands_from (operands ++ operand ∷ []) letters texts
operands_from operands _ _ = None

-- ---- instructions

-- the instruction of an opcode that is written in its shape
abbrev pub instruction_of_parts : Bool → Opcode → List (List ℕ) → Option Instruction
instruction_of_parts fits opcode texts =
    if fits then (do
      operands ← operands_from [] (kinds_of opcode) texts
      Some (record { opcode = opcode; operands = operands }))
    else None

abbrev pub is_plain_shape : Shape → Bool
is_plain_shape shape.Plain = true
is_plain_shape _ = false

abbrev pub is_test_shape : Shape → Bool
is_test_shape shape.Test = true
is_test_shape _ = false

abbrev pub is_bif0_shape : Shape → Bool
is_bif0_shape shape.Bif0 = true
is_bif0_shape _ = false

abbrev pub is_bif_shape : Shape → Bool
is_bif_shape shape.Bif = true
is_bif_shape _ = false

abbrev pub is_gc_bif_shape : Shape → Bool
is_gc_bif_shape shape.GcBif = true
is_gc_bif_shape _ = false

abbrev pub is_raise_shape : Shape → Bool
is_raise_shape shape.Raise = true
is_raise_shape _ = false

-- whether an opcode is int_code_end, which a listing doesn't write
abbrev pub is_end : Opcode → Bool
is_end op.IntCodeEnd = true
is_end _ = false

-- `{name,operands..}`
unfoldable pub plain_of : List ℕ → List (List ℕ) → Option Instruction
plain_of name parts = do
  opcode ← opcode_named name
  if is_end opcode then None else instruction_of_parts (is_plain_shape (shape_of opcode)) opcode parts

-- `{test,name,F,[arguments]}`
unfoldable pub test_of : List (List ℕ) → Option Instruction
test_of (name ∷ fail ∷ arguments ∷ []) = do
  text ← atom_of_text name
  opcode ← opcode_named text
  parts ← list_parts arguments
  instruction_of_parts (is_test_shape (shape_of opcode)) opcode (fail ∷ parts)
test_of _ = None

-- the instruction raise of these operands
unfoldable pub raise_by : List (List ℕ) → Option Instruction
raise_by parts = do
  opcode ← opcode_of 108
  instruction_of_parts (is_raise_shape (shape_of opcode)) opcode parts

-- `{raise,[operands]}`
unfoldable pub raise_of_text : List ℕ → Option Instruction
raise_of_text list = do
  parts ← list_parts list
  raise_by parts

-- the opcode of a native of n arguments, where the first number is the opcode of a native of none
unfoldable pub counted : ℕ → ℕ → Option Opcode
counted first count = if nat_lt count 3 then opcode_of (first + count) else None

-- `{bif,Name,{f,0},[],D}`
unfoldable pub bif0_of : List ℕ → List ℕ → List ℕ → Option Instruction
bif0_of name fail dest = do
  label ← label_of_text fail
  opcode ← opcode_of 9
  instruction_of_parts (label == 0 && is_bif0_shape (shape_of opcode)) opcode (name ∷ dest ∷ [])

-- `{bif,Name,F,[arguments],D}`
unfoldable pub bif_by : List ℕ → List ℕ → List (List ℕ) → List ℕ → Option Instruction
bif_by name fail [] dest = bif0_of name fail dest
bif_by name fail (part ∷ parts) dest = do
  opcode ← counted 9 (length (part ∷ parts))
  instruction_of_parts (is_bif_shape (shape_of opcode)) opcode ((fail ∷ name ∷ []) ++ (part ∷ parts) ++ dest ∷ [])

-- two arguments of raise: the native raise/2 is the instruction raise
abbrev pub is_raise_call : List ℕ → List (List ℕ) → Bool
is_raise_call name parts = length parts == 2 && same_text name (codes "raise")

unfoldable pub bif_of : List (List ℕ) → Option Instruction
bif_of (name ∷ fail ∷ arguments ∷ dest ∷ []) = do
  text ← atom_of_text name
  parts ← list_parts arguments
  if is_raise_call text parts then raise_by parts else bif_by name fail parts dest
bif_of _ = None

-- `{gc_bif,Name,F,Live,[arguments],D}`
unfoldable pub gc_bif_of : List (List ℕ) → Option Instruction
gc_bif_of (name ∷ fail ∷ live ∷ arguments ∷ dest ∷ []) = do
  parts ← list_parts arguments
  opcode ← counted 123 (length parts)
  instruction_of_parts (is_gc_bif_shape (shape_of opcode)) opcode ((fail ∷ live ∷ name ∷ []) ++ parts ++ dest ∷ [])
gc_bif_of _ = None

-- `{line,_}`
abbrev pub line_instruction : Instruction
line_instruction = record { opcode = op.Line; operands = operand.One (argument.Number 0) ∷ [] }

unfoldable pub instruction_by : List ℕ → List (List ℕ) → Option Instruction
instruction_by name parts =
    if same_text name (codes "test") then test_of parts
    else if same_text name (codes "bif") then bif_of parts
    else if same_text name (codes "gc_bif") then gc_bif_of parts
    else if same_text name (codes "raise") then (do
      list ← only parts
      raise_of_text list)
    else if same_text name (codes "line") then (do
      about ← only parts
      Some line_instruction)
    else plain_of name parts

-- ---- the forms after the heads

-- `{function,F,A,Entry}`
unfoldable pub function_of_parts : List (List ℕ) → Option Function
function_of_parts (f ∷ a ∷ e ∷ []) = do
  name ← atom_of_text f
  arity ← number_of_text a
  entry ← number_of_text e
  Some (record { name = name; arity = arity; entry = entry })
function_of_parts _ = None

unfoldable pub item_by : List ℕ → List (List ℕ) → Option Item
item_by name parts =
    if same_text name (codes "function") then (do
      function ← function_of_parts parts
      Some (item.Function function))
    else if same_text name (codes "%") then (do
      about ← only parts
      Some item.Remark)
    else (do
      instruction ← instruction_by name parts
      Some (item.Instruction instruction))

-- an instruction without operands is its name alone
unfoldable pub bare_item : List ℕ → Option Item
bare_item text = do
  name ← atom_of_text text
  instruction ← plain_of name []
  Some (item.Instruction instruction)

unfoldable pub item_of : List ℕ → Option Item
item_of [] = None
item_of (c ∷ cs) =
    if c == 123 then (do
      h ← headed_of (c ∷ cs)
      item_by h.0 h.1)
    else bare_item (c ∷ cs)

-- ---- heads

-- `{module,M}`
unfoldable pub module_of : List ℕ → Option (List ℕ)
module_of text = do
  part ← part_of (codes "module") text
  atom_of_text part

abbrev pub signature_of_parts : List (List ℕ) → Option Signature
signature_of_parts (f ∷ a ∷ []) = do
  name ← atom_of_text f
  arity ← number_of_text a
  Some (record { name = name; arity = arity })
signature_of_parts _ = None

-- `{F,A}`
unfoldable pub signature_of_text : List ℕ → Option Signature
signature_of_text text = do
  parts ← tuple_parts text
  signature_of_parts parts

-- these signatures, and then the signatures that the texts are
unfoldable pub signatures_from : List Signature → List (List ℕ) → Option (List Signature)
signatures_from signatures [] = Some signatures
signatures_from signatures (text ∷ texts) = do
  signature ← signature_of_text text
  signatures_from (signatures ++ signature ∷ []) texts

-- `{exports,[{F,A},..]}`
unfoldable pub exports_of : List ℕ → Option (List Signature)
exports_of text = do
  part ← part_of (codes "exports") text
  parts ← list_parts part
  signatures_from [] parts

-- `{attributes,_}`
unfoldable pub attributes_of : List ℕ → Option (List ℕ)
attributes_of text = part_of (codes "attributes") text

-- `{labels,N}`
unfoldable pub labels_of : List ℕ → Option ℕ
labels_of text = do
  part ← part_of (codes "labels") text
  number_of_text part
