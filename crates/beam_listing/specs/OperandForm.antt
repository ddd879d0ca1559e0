-- Which text is which operand, by what stands where (the compiler's .S files). Numbers, atoms and terms are those of Erlang text.
use Rattle.std.specs.Prelude.{◌≡◌, ◌⊎◌, ℕ, ◌^◌, ◌<◌, ℤ, pos, List, [], ◌∷◌, Ok, IsTrue, codes, ⊤}
use Rattle.beam_model.specs.declared.function.Import.{Import}
use Rattle.beam_model.specs.declared.instruction.Argument.{Argument}
use Rattle.beam_model.specs.declared.instruction.Operand.{Operand}
use Rattle.beam_model.specs.declared.opcode.Kind.{Kind}
use Rattle.beam_model.specs.Prelude.{is_digit, integer_at, atom_at, term_at}
use Rattle.beam_term.specs.Prelude.{TermValue, int_term, atom_term, nil_term}
use Rattle.beam_model.specs.declared.instruction.Argument.TheVariants as argument
use Rattle.beam_model.specs.declared.instruction.Operand.TheVariants as operand
use Rattle.beam_model.specs.declared.opcode.Kind.TheVariants as kind
use Rattle.beam_listing.specs.BracketForm.{AreBracketed, AreListed, AreEach}

-- ---- numbers, atoms and terms: the whole text, with blanks after it

abbrev pub IsInteger : ℤ → List ℕ → Type 0
IsInteger z text = integer_at text ≡ Ok (z, [])

-- from 0 to 4,294,967,295
abbrev pub IsNumber : ℕ → List ℕ → Type 0
IsNumber n text = IsInteger (pos n) text × (n < 2 ^ 32)

abbrev pub IsAtom : List ℕ → List ℕ → Type 0
IsAtom name text = atom_at text ≡ Ok (name, [])

-- pairs and tuples nest at most 4,096 deep
abbrev pub IsTermText : TermValue → List ℕ → Type 0
IsTermText t text = term_at 4096 text ≡ Ok (t, [])

-- ---- braces with a name in front

-- `{name,part,..}`
pub record IsHeaded (name : List ℕ) (parts : List (List ℕ)) (text : List ℕ) : Type 0 where
  pub head : List ℕ
  pub is_name : IsAtom name head
  pub in_braces : AreBracketed 123 125 (head ∷ parts) text

-- `{name,part}`
abbrev pub IsTagged : List ℕ → (List ℕ → Type 0) → List ℕ → Type 0
IsTagged name IsPart text = (part : List ℕ) × IsHeaded name (part ∷ []) text × IsPart part

-- ---- arguments

-- `{f,N}`
abbrev pub IsLabel : ℕ → List ℕ → Type 0
IsLabel n text = IsTagged (codes "f") (IsNumber n) text

-- `{x,N}`, `{y,N}`
abbrev pub IsPlainRegister : Argument → List ℕ → Type 0
IsPlainRegister (argument.X n) text = IsTagged (codes "x") (IsNumber n) text
IsPlainRegister (argument.Y n) text = IsTagged (codes "y") (IsNumber n) text
IsPlainRegister _ text = ⊥

-- `{tr,R,_}`: the type of the register is dropped
abbrev pub IsTypedRegister : Argument → List ℕ → Type 0
IsTypedRegister a text = (register about : List ℕ) × IsHeaded (codes "tr") (register ∷ about ∷ []) text × IsPlainRegister a register

abbrev pub IsRegister : Argument → List ℕ → Type 0
IsRegister a text = IsPlainRegister a text ⊎ IsTypedRegister a text

-- `{integer,I}`, `{atom,A}`, `nil`
abbrev pub IsPlainTerm : TermValue → List ℕ → Type 0
IsPlainTerm (int_term z) text = IsTagged (codes "integer") (IsInteger z) text
IsPlainTerm (atom_term name) text = IsTagged (codes "atom") (IsAtom name) text
IsPlainTerm nil_term text = IsAtom (codes "nil") text
IsPlainTerm _ text = ⊥

-- one of these, or `{literal,T}`
abbrev pub IsConstant : TermValue → List ℕ → Type 0
IsConstant t text = IsPlainTerm t text ⊎ IsTagged (codes "literal") (IsTermText t) text

-- a term or a register
abbrev pub IsSource : Argument → List ℕ → Type 0
IsSource (argument.Term t) text = IsConstant t text
IsSource a text = IsRegister a text

abbrev pub BeginsWithDigit : List ℕ → Type 0
BeginsWithDigit [] = ⊥
BeginsWithDigit (c ∷ cs) = IsTrue (is_digit c)

-- a label, a number, which has no sign here, or a source
abbrev pub IsMember : Argument → List ℕ → Type 0
IsMember (argument.Label n) text = IsLabel n text
IsMember (argument.Number n) text = BeginsWithDigit text × IsNumber n text
IsMember a text = IsSource a text

-- ---- operands

-- `{extfunc,M,F,A}`
pub record IsImport (i : Import) (text : List ℕ) : Type 0 where
  pub module_part : List ℕ
  pub function_part : List ℕ
  pub arity_part : List ℕ
  pub in_braces : IsHeaded (codes "extfunc") (module_part ∷ function_part ∷ arity_part ∷ []) text
  pub is_module : IsAtom i.«module» module_part
  pub is_function : IsAtom i.function function_part
  pub is_arity : IsNumber i.arity arity_part

-- a native of erlang stands by its name alone
pub record IsNative (arity : ℕ) (i : Import) (text : List ℕ) : Type 0 where
  pub «module» : i.«module» ≡ codes "erlang"
  pub is_function : IsAtom i.function text
  pub same : i.arity ≡ arity

-- `[..]`
abbrev pub AreMembers : List Argument → List ℕ → Type 0
AreMembers members text = (parts : List (List ℕ)) × AreListed parts text × AreEach IsMember members parts

-- an operand by its kind: a number alone, `{f,N}`, `{atom,A}`, a source, a register, `{extfunc,M,F,A}`, a native, `{list,[..]}`
abbrev pub IsOperand : Kind → Operand → List ℕ → Type 0
IsOperand kind.Number (operand.One (argument.Number n)) text = IsNumber n text
IsOperand kind.Arity (operand.One (argument.Number n)) text = IsNumber n text
IsOperand kind.FrameSize (operand.One (argument.Number n)) text = IsNumber n text
IsOperand kind.Label (operand.One (argument.Label n)) text = IsLabel n text
IsOperand kind.FailLabel (operand.One (argument.Label n)) text = IsLabel n text
IsOperand kind.Atom (operand.One (argument.Term (atom_term name))) text = IsTagged (codes "atom") (IsAtom name) text
IsOperand kind.Source (operand.One a) text = IsSource a text
IsOperand kind.Register (operand.One a) text = IsRegister a text
IsOperand kind.Import (operand.Import i) text = IsImport i text
IsOperand (kind.Native arity) (operand.Import i) text = IsNative arity i text
IsOperand kind.List (operand.List members) text = IsTagged (codes "list") (AreMembers members) text
IsOperand _ _ text = ⊥

-- an operand of each kind
abbrev pub AreOperands : List Kind → List Operand → List (List ℕ) → Type 0
AreOperands [] [] [] = ⊤
AreOperands (k ∷ ks) (o ∷ os) (text ∷ texts) = IsOperand k o text × AreOperands ks os texts
AreOperands _ _ _ = ⊥
