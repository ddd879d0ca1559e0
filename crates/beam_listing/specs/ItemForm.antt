-- The forms of a listing and their values, by what stands where: the heads, then functions, instructions and remarks (the compiler's
-- .S files). A form stands here without its full stop.
use Rattle.std.specs.Prelude.{◌≡◌, ◌≢◌, ◌⊎◌, ℕ, List, [], ◌∷◌, ◌++◌, length, codes}
use Rattle.beam_model.specs.declared.function.Signature.{Signature}
use Rattle.beam_model.specs.declared.function.Function.{Function}
use Rattle.beam_model.specs.declared.instruction.Instruction.{Instruction}
use Rattle.beam_model.specs.declared.item.Item.{Item}
use Rattle.beam_model.specs.Prelude.{line_instruction, shape_of, name_of, kinds_of}
use Rattle.beam_model.specs.declared.item.Item.TheVariants as item
use Rattle.beam_model.specs.declared.opcode.Opcode.TheVariants as op
use Rattle.beam_model.specs.declared.shape.Shape.{Shape}
use Rattle.beam_model.specs.declared.shape.Shape.TheVariants as shape
use Rattle.beam_listing.specs.BracketForm.{AreBracketed, AreListed, AreEach}
use Rattle.beam_listing.specs.OperandForm.{IsNumber, IsAtom, IsHeaded, IsTagged, IsLabel, AreOperands}

-- ---- heads

-- `{module,M}`
abbrev pub IsModuleForm : List ℕ → List ℕ → Type 0
IsModuleForm name form = IsTagged (codes "module") (IsAtom name) form

-- `{F,A}`
pub record IsSignature (s : Signature) (text : List ℕ) : Type 0 where
  pub name_part : List ℕ
  pub arity_part : List ℕ
  pub in_braces : AreBracketed 123 125 (name_part ∷ arity_part ∷ []) text
  pub is_name : IsAtom s.name name_part
  pub is_arity : IsNumber s.arity arity_part

-- `[{F,A},..]`
abbrev pub AreSignatures : List Signature → List ℕ → Type 0
AreSignatures signatures text = (parts : List (List ℕ)) × AreListed parts text × AreEach IsSignature signatures parts

-- `{exports,[{F,A},..]}`
abbrev pub IsExportsForm : List Signature → List ℕ → Type 0
IsExportsForm signatures form = IsTagged (codes "exports") (AreSignatures signatures) form

-- `{attributes,_}`
abbrev pub IsAttributesForm : List ℕ → List ℕ → Type 0
IsAttributesForm about form = IsHeaded (codes "attributes") (about ∷ []) form

-- `{labels,N}`
abbrev pub IsLabelsForm : ℕ → List ℕ → Type 0
IsLabelsForm n form = IsTagged (codes "labels") (IsNumber n) form

-- ---- functions

-- `{function,F,A,Entry}`
pub record IsFunctionForm (f : Function) (form : List ℕ) : Type 0 where
  pub name_part : List ℕ
  pub arity_part : List ℕ
  pub entry_part : List ℕ
  pub in_braces : IsHeaded (codes "function") (name_part ∷ arity_part ∷ entry_part ∷ []) form
  pub is_name : IsAtom f.name name_part
  pub is_arity : IsNumber f.arity arity_part
  pub is_entry : IsNumber f.entry entry_part

-- ---- instructions, by the shape of their opcode

-- `name`, or `{name,operand,..}`
abbrev pub IsCall : List ℕ → List (List ℕ) → List ℕ → Type 0
IsCall name [] form = IsAtom name form
IsCall name (part ∷ parts) form = IsHeaded name (part ∷ parts) form

-- the opcode's name, and the operands; int_code_end has no form
pub record IsPlainForm (i : Instruction) (form : List ℕ) : Type 0 where
  pub goes_on : i.opcode ≢ op.IntCodeEnd
  pub parts : List (List ℕ)
  pub is_call : IsCall (name_of i.opcode) parts form
  pub are_operands : AreOperands (kinds_of i.opcode) i.operands parts

-- `{test,name,F,[arguments]}`
pub record IsTestForm (i : Instruction) (form : List ℕ) : Type 0 where
  pub name : List ℕ
  pub fail : List ℕ
  pub list : List ℕ
  pub arguments : List (List ℕ)
  pub in_braces : IsHeaded (codes "test") (name ∷ fail ∷ list ∷ []) form
  pub is_name : IsAtom (name_of i.opcode) name
  pub are_arguments : AreListed arguments list
  pub are_operands : AreOperands (kinds_of i.opcode) i.operands (fail ∷ arguments)

-- `{bif,Name,{f,0},[],D}`
pub record IsBif0Form (i : Instruction) (form : List ℕ) : Type 0 where
  pub name : List ℕ
  pub fail : List ℕ
  pub list : List ℕ
  pub dest : List ℕ
  pub in_braces : IsHeaded (codes "bif") (name ∷ fail ∷ list ∷ dest ∷ []) form
  pub no_arguments : AreListed [] list
  pub no_fail : IsLabel 0 fail
  pub are_operands : AreOperands (kinds_of i.opcode) i.operands (name ∷ dest ∷ [])

-- `{bif,Name,F,[arguments],D}`, but for raise/2
pub record IsBifForm (i : Instruction) (form : List ℕ) : Type 0 where
  pub name : List ℕ
  pub fail : List ℕ
  pub list : List ℕ
  pub dest : List ℕ
  pub arguments : List (List ℕ)
  pub in_braces : IsHeaded (codes "bif") (name ∷ fail ∷ list ∷ dest ∷ []) form
  pub are_arguments : AreListed arguments list
  pub no_raise : length arguments ≡ 2 → IsAtom (codes "raise") name → ⊥
  pub are_operands : AreOperands (kinds_of i.opcode) i.operands (fail ∷ name ∷ (arguments ++ (dest ∷ [])))

-- `{gc_bif,Name,F,Live,[arguments],D}`
pub record IsGcBifForm (i : Instruction) (form : List ℕ) : Type 0 where
  pub name : List ℕ
  pub fail : List ℕ
  pub live : List ℕ
  pub list : List ℕ
  pub dest : List ℕ
  pub arguments : List (List ℕ)
  pub in_braces : IsHeaded (codes "gc_bif") (name ∷ fail ∷ live ∷ list ∷ dest ∷ []) form
  pub are_arguments : AreListed arguments list
  pub are_operands : AreOperands (kinds_of i.opcode) i.operands (fail ∷ live ∷ name ∷ (arguments ++ (dest ∷ [])))

-- `{bif,raise,_,[arguments],_}`: the native raise/2 is the instruction raise
pub record IsRaiseBif (list form : List ℕ) : Type 0 where
  pub name : List ℕ
  pub fail : List ℕ
  pub dest : List ℕ
  pub in_braces : IsHeaded (codes "bif") (name ∷ fail ∷ list ∷ dest ∷ []) form
  pub is_name : IsAtom (codes "raise") name

-- `{raise,[arguments]}`, or the native
pub record IsRaiseForm (i : Instruction) (form : List ℕ) : Type 0 where
  pub list : List ℕ
  pub arguments : List (List ℕ)
  pub is_raise : IsHeaded (codes "raise") (list ∷ []) form ⊎ IsRaiseBif list form
  pub are_arguments : AreListed arguments list
  pub are_operands : AreOperands (kinds_of i.opcode) i.operands arguments

-- `{line,_}`, which is the instruction line with the operand 0
pub record IsLineForm (i : Instruction) (form : List ℕ) : Type 0 where
  pub about : List ℕ
  pub in_braces : IsHeaded (codes "line") (about ∷ []) form
  pub same : i ≡ line_instruction

abbrev pub IsShaped : Shape → Instruction → List ℕ → Type 0
IsShaped shape.Plain i form = IsPlainForm i form
IsShaped shape.Test i form = IsTestForm i form
IsShaped shape.Bif0 i form = IsBif0Form i form
IsShaped shape.Bif i form = IsBifForm i form
IsShaped shape.GcBif i form = IsGcBifForm i form
IsShaped shape.Raise i form = IsRaiseForm i form
IsShaped shape.Line i form = IsLineForm i form

abbrev pub IsInstructionForm : Instruction → List ℕ → Type 0
IsInstructionForm i form = IsShaped (shape_of i.opcode) i form

-- ---- the forms after the heads

-- `{'%',_}`
abbrev pub IsRemarkForm : List ℕ → Type 0
IsRemarkForm form = (about : List ℕ) × IsHeaded (codes "%") (about ∷ []) form

abbrev pub IsItemForm : Item → List ℕ → Type 0
IsItemForm (item.Function f) form = IsFunctionForm f form
IsItemForm (item.Instruction i) form = IsInstructionForm i form
IsItemForm item.Remark form = IsRemarkForm form
