-- What a listing must be to be loaded, by what stands where: its functions, one after the other (genop.tab: `label`, `line`,
-- `func_info`, `int_code_end`; the compiler's .S files).
use Rattle.std.specs.Prelude.{◌≡◌, ◌≢◌, ℕ, map, length, List, [], ◌∷◌, ◌++◌, IsTrue}
use Rattle.std.specs.List.{list_all, All}
use Rattle.beam_term.specs.Prelude.{atom_term}
use Rattle.beam_model.specs.declared.function.Function.{Function}
use Rattle.beam_model.specs.declared.instruction.Argument.TheVariants as argument
use Rattle.beam_model.specs.declared.instruction.Operand.TheVariants as operand
use Rattle.beam_model.specs.declared.instruction.Instruction.{Instruction}
use Rattle.beam_model.specs.declared.opcode.Opcode.TheVariants as op
use Rattle.beam_model.specs.Listing.{Listing}
use Rattle.beam_model.specs.Loadable.{are_labels_lawful, signature_of, exported_signature, are_signatures_new, is_entry_of, are_natives_known, are_limits_met}
use Rattle.beam_model.specs.Framed.{IsFramed}
use Rattle.beam_model.specs.Sequence.{InSequence}

-- ---- instructions

abbrev pub label : ℕ → Instruction
label n = record { opcode = op.Label; operands = operand.One (argument.Number n) ∷ [] }

-- the module's name, and a function's name and arity
abbrev pub func_info : List ℕ → List ℕ → ℕ → Instruction
func_info module_name name arity = record {
  opcode = op.FuncInfo;
  operands = operand.One (argument.Term (atom_term module_name)) ∷ operand.One (argument.Term (atom_term name)) ∷ operand.One (argument.Number arity) ∷ [];
}

abbrev pub IsLine : Instruction → Type 0
IsLine i = i.opcode ≡ op.Line

-- a body has no func_info, which begins a function, and no int_code_end, which stands after the listing
abbrev pub IsInBody : Instruction → Type 0
IsInBody i = (i.opcode ≢ op.FuncInfo) × (i.opcode ≢ op.IntCodeEnd)

-- ---- functions

-- a function: a label, lines, func_info with the module's name, the label of its entry, and its body
pub record IsFunction (module_name : List ℕ) (f : Function) (code : List Instruction) : Type 0 where
  pub first : ℕ
  pub lines : List Instruction
  pub body : List Instruction
  pub parts : code ≡ label first ∷ (lines ++ (func_info module_name f.name f.arity ∷ label f.entry ∷ body))
  pub are_lines : All IsLine lines
  pub is_body : All IsInBody body

-- functions, one after the other
abbrev pub AreFunctions : List ℕ → List Function → List Instruction → Type 0
AreFunctions module_name = InSequence (IsFunction module_name)

-- A listing that can be loaded: its labels are lawful; its instructions are functions, as many as it says, no two of one name and
-- arity; each export is the entry of one of them, no two of one name and arity; natives are known, limits are kept, and each row finds
-- the registers and the frame that it names.
pub record IsWellFormed (l : Listing) : Type 0 where
  pub labels : IsTrue (are_labels_lawful l)
  pub functions : List Function
  pub are_functions : AreFunctions l.name functions l.instructions
  pub count : length functions ≡ l.function_count
  pub distinct : IsTrue (are_signatures_new [] (map signature_of functions))
  pub entries : IsTrue (list_all (is_entry_of functions) l.exports)
  pub exports : IsTrue (are_signatures_new [] (map exported_signature l.exports))
  pub natives : IsTrue (are_natives_known l)
  pub limits : IsTrue (are_limits_met l)
  pub framed : IsFramed l

-- the listing can be loaded, by some functions and shapes
abbrev pub CanLoad : Listing → Type 0
CanLoad l = ∥ IsWellFormed l ∥₁
