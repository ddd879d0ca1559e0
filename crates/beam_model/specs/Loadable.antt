-- What a listing must be to be loaded: five rules.
use Rattle.std.specs.Prelude.{ℕ, map, Bool, true, false, not, ◌&&◌, ◌||◌, ◌==◌, nat_lt, nat_le, length, if◌then◌else◌, List, [], ◌∷◌, ◌++◌, Option, Some, None, option_map, option_and_then, is_some, unwrap_or}
use Rattle.std.specs.List.{list_any, list_all, zip}
use Rattle.beam_term.specs.Prelude.{TermValue, atom_term}
use Rattle.beam_model.specs.declared.function.Export.{Export}
use Rattle.beam_model.specs.declared.function.Function.{Function}
use Rattle.beam_model.specs.declared.function.Signature.{Signature}
use Rattle.beam_model.specs.declared.instruction.Argument.{Argument}
use Rattle.beam_model.specs.declared.instruction.Argument.TheVariants as argument
use Rattle.beam_model.specs.declared.instruction.Operand.{Operand}
use Rattle.beam_model.specs.declared.instruction.Operand.TheVariants as operand
use Rattle.beam_model.specs.declared.instruction.Instruction.{Instruction}
use Rattle.beam_model.specs.declared.opcode.Opcode.{Opcode}
use Rattle.beam_model.specs.declared.opcode.Opcode.TheVariants as op
use Rattle.beam_model.specs.declared.opcode.Kind.{Kind}
use Rattle.beam_model.specs.declared.opcode.Kind.TheVariants as kind
use Rattle.beam_model.specs.Listing.{Listing, label_of}
use Rattle.beam_model.specs.SameText.{same_text}
use Rattle.beam_model.specs.NativeNames.{built_in_of}
use Rattle.beam_model.specs.Opcodes.{kinds_of}

abbrev pub is_among : ℕ → List ℕ → Bool
is_among n ns = list_any (λ m. n == m) ns

-- whether no number of the second list stands in the first, or twice
abbrev pub are_new : List ℕ → List ℕ → Bool
are_new before [] = true
are_new before (n ∷ rest) = not (is_among n before) && are_new (before ++ n ∷ []) rest

-- ---- labels

abbrev pub with_label : Option ℕ → List ℕ → List ℕ
with_label None rest = rest
with_label (Some n) rest = n ∷ rest

-- the labels that are defined
abbrev pub defined_labels : List Instruction → List ℕ
defined_labels [] = []
defined_labels (i ∷ rest) = with_label (label_of i) (defined_labels rest)

-- a label that an operand names is defined; 0 names none, also where a label 0 is defined
abbrev pub is_argument_defined : List ℕ → Argument → Bool
is_argument_defined defined (argument.Label n) = nat_lt 0 n && is_among n defined
is_argument_defined defined _ = true

abbrev pub is_defined_in : List ℕ → Operand → Bool
is_defined_in defined (operand.One a) = is_argument_defined defined a
is_defined_in defined (operand.Import i) = true
is_defined_in defined (operand.List as') = list_all (is_argument_defined defined) as'

-- label 0, which stands for none
abbrev pub is_none_label : Operand → Bool
is_none_label (operand.One (argument.Label n)) = n == 0
is_none_label _ = false

abbrev pub is_defined : List ℕ → Kind → Operand → Bool
is_defined defined kind.FailLabel o = is_none_label o || is_defined_in defined o
is_defined defined _ o = is_defined_in defined o

-- each operand passes the test of its kind, and there are as many as kinds
abbrev pub all_operands : (Kind → Operand → Bool) → List Kind → List Operand → Bool
all_operands test kinds operands = length kinds == length operands && list_all (λ p. test p.0 p.1) (zip kinds operands)

-- the labels that its operands name are defined
abbrev pub are_targets : List ℕ → Instruction → Bool
are_targets defined i = all_operands (is_defined defined) (kinds_of i.opcode) i.operands

-- each label is defined once and is below the label count, and each label operand is defined
abbrev pub are_labels_lawful : Listing → Bool
are_labels_lawful l =
    let defined = defined_labels l.instructions in
    are_new [] defined && list_all (λ n. nat_lt n l.label_count) defined && list_all (are_targets defined) l.instructions

-- ---- functions

-- the states of the automaton of functions: which instructions stand before this one
pub data Stage : Type 0 where
  start : Stage  -- a label is expected
  first_label : Stage  -- the first label and lines stood there: func_info is expected
  informed : List ℕ → ℕ → Stage  -- func_info of a function of this name and arity: its entry label is expected
  body : Stage  -- an entry label or a part of a body: more of the body may come
  body_label : Stage  -- a label of the body and lines: func_info of the next function may come too

abbrev pub atom_of_term : TermValue → Option (List ℕ)
atom_of_term (atom_term text) = Some text
atom_of_term _ = None

abbrev pub atom_in : Operand → Option (List ℕ)
atom_in (operand.One (argument.Term t)) = atom_of_term t
atom_in _ = None

abbrev pub number_in : Operand → Option ℕ
number_in (operand.One (argument.Number n)) = Some n
number_in _ = None

abbrev pub informed_from : List ℕ → Option (List ℕ) → Option (List ℕ) → Option ℕ → Option Stage
informed_from name (Some m) (Some f) (Some a) = if same_text m name then Some (informed f a) else None
informed_from name _ _ _ = None

-- the state after func_info of this module
abbrev pub informed_by : List ℕ → List Operand → Option Stage
informed_by name (m ∷ f ∷ a ∷ []) = informed_from name (atom_in m) (atom_in f) (number_in a)
informed_by name _ = None

abbrev pub at_start : Instruction → Option Stage
at_start i = option_map (λ n. first_label) (label_of i)

abbrev pub after_first_label : List ℕ → Opcode → List Operand → Option Stage
after_first_label name op.Line operands = Some first_label
after_first_label name op.FuncInfo operands = informed_by name operands
after_first_label name _ operands = None

abbrev pub after_func_info : Instruction → Option Stage
after_func_info i = option_map (λ n. body) (label_of i)

abbrev pub within_body : Opcode → Option Stage
within_body op.Label = Some body_label
within_body op.FuncInfo = None
within_body op.IntCodeEnd = None
within_body _ = Some body

abbrev pub after_body_label : List ℕ → Opcode → List Operand → Option Stage
after_body_label name op.Label operands = Some body_label
after_body_label name op.Line operands = Some body_label
after_body_label name op.FuncInfo operands = informed_by name operands
after_body_label name op.IntCodeEnd operands = None
after_body_label name _ operands = Some body

-- the state after an instruction, if the instruction may stand here
abbrev pub next_stage : List ℕ → Stage → Instruction → Option Stage
next_stage name start i = at_start i
next_stage name first_label i = after_first_label name i.opcode i.operands
next_stage name (informed f a) i = after_func_info i
next_stage name body i = within_body i.opcode
next_stage name body_label i = after_body_label name i.opcode i.operands

-- whether the list may end here
abbrev pub may_end : Stage → Bool
may_end start = true
may_end first_label = false
may_end (informed f a) = false
may_end body = true
may_end body_label = true

-- the function whose entry label this is
abbrev pub function_at : Stage → Instruction → List Function
function_at (informed f a) i = (record { name = f; arity = a; entry = unwrap_or (label_of i) 0 }) ∷ []
function_at _ i = []

-- the functions, one after the other: each begins with a label, lines and func_info with the module's name, and then its entry label;
-- int_code_end stands after the listing, and never in it
abbrev pub functions_from : List ℕ → Stage → List Instruction → Option (List Function)
functions_from name stage [] = if may_end stage then Some [] else None
functions_from name stage (i ∷ rest) =
    option_and_then (λ next. option_map (λ fs. function_at stage i ++ fs) (functions_from name next rest)) (next_stage name stage i)

abbrev pub functions_of : Listing → Option (List Function)
functions_of l = functions_from l.name start l.instructions

abbrev pub signature_of : Function → Signature
signature_of f = record { name = f.name; arity = f.arity }

abbrev pub same_signature : Signature → Signature → Bool
same_signature s t = same_text s.name t.name && s.arity == t.arity

-- whether no signature of the second list stands in the first, or twice
abbrev pub are_signatures_new : List Signature → List Signature → Bool
are_signatures_new before [] = true
are_signatures_new before (s ∷ rest) = not (list_any (same_signature s) before) && are_signatures_new (before ++ s ∷ []) rest

abbrev pub are_functions_lawful : ℕ → Option (List Function) → Bool
are_functions_lawful count None = false
are_functions_lawful count (Some fs) = length fs == count && are_signatures_new [] (map signature_of fs)

-- the instructions are functions, as many as the count, and no two have one name and arity
abbrev pub are_heads_lawful : Listing → Bool
are_heads_lawful l = are_functions_lawful l.function_count (functions_of l)

-- ---- exports

abbrev pub exported : Export → Function
exported e = record { name = e.name; arity = e.arity; entry = e.label }

abbrev pub exported_signature : Export → Signature
exported_signature e = record { name = e.name; arity = e.arity }

abbrev pub is_entry : Function → Function → Bool
is_entry f g = same_text f.name g.name && (f.arity == g.arity && f.entry == g.entry)

abbrev pub is_entry_of : List Function → Export → Bool
is_entry_of fs e = list_any (λ f. is_entry f (exported e)) fs

-- each export names the entry label of a function with its name and arity, and no two have one name and arity
abbrev pub are_exports_lawful : Listing → Bool
are_exports_lawful l = list_all (is_entry_of (unwrap_or (functions_of l) [])) l.exports && are_signatures_new [] (map exported_signature l.exports)

-- ---- natives

abbrev pub is_native : ℕ → Operand → Bool
is_native arity (operand.Import i) = is_some (built_in_of i) && i.arity == arity
is_native arity _ = false

abbrev pub is_known : Kind → Operand → Bool
is_known (kind.Native arity) o = is_native arity o
is_known _ o = true

-- each native of an instruction is one that instructions may call, with that number of arguments
abbrev pub are_natives_known : Listing → Bool
are_natives_known l = list_all (λ i. all_operands is_known (kinds_of i.opcode) i.operands) l.instructions

-- ---- kinds and limits

-- registers are x0 to x1023 and y0 to y1022
abbrev pub is_argument_within : Argument → Bool
is_argument_within (argument.X n) = nat_lt n 1024
is_argument_within (argument.Y n) = nat_lt n 1023
is_argument_within _ = true

abbrev pub is_number_operand : Operand → Bool
is_number_operand (operand.One (argument.Number n)) = true
is_number_operand _ = false

-- an arity is at most 255
abbrev pub is_arity : Operand → Bool
is_arity (operand.One (argument.Number n)) = nat_le n 255
is_arity _ = false

-- a frame has at most 1,023 y registers
abbrev pub is_frame_size : Operand → Bool
is_frame_size (operand.One (argument.Number n)) = nat_le n 1023
is_frame_size _ = false

abbrev pub is_label_operand : Operand → Bool
is_label_operand (operand.One (argument.Label n)) = true
is_label_operand _ = false

abbrev pub is_atom_operand : Operand → Bool
is_atom_operand o = is_some (atom_in o)

abbrev pub is_register_operand : Operand → Bool
is_register_operand (operand.One (argument.X n)) = nat_lt n 1024
is_register_operand (operand.One (argument.Y n)) = nat_lt n 1023
is_register_operand _ = false

abbrev pub is_source_operand : Operand → Bool
is_source_operand (operand.One (argument.Term t)) = true
is_source_operand o = is_register_operand o

abbrev pub is_import_operand : Operand → Bool
is_import_operand (operand.Import i) = nat_le i.arity 255
is_import_operand _ = false

abbrev pub is_list_operand : Operand → Bool
is_list_operand (operand.List as') = list_all is_argument_within as'
is_list_operand _ = false

-- the operand is of its kind, and within the limits of registers, frames and arities
abbrev pub is_within : Kind → Operand → Bool
is_within kind.Number o = is_number_operand o
is_within kind.Arity o = is_arity o
is_within kind.FrameSize o = is_frame_size o
is_within kind.Label o = is_label_operand o
is_within kind.FailLabel o = is_label_operand o
is_within kind.Atom o = is_atom_operand o
is_within kind.Source o = is_source_operand o
is_within kind.Register o = is_register_operand o
is_within kind.Import o = is_import_operand o
is_within (kind.Native arity) o = is_import_operand o
is_within kind.List o = is_list_operand o

-- the operands of each instruction are of its opcode's kinds; register numbers and arities are within the limits
abbrev pub are_limits_met : Listing → Bool
are_limits_met l = list_all (λ i. all_operands is_within (kinds_of i.opcode) i.operands) l.instructions

-- ---- all of it

-- the first five rules; the sixth is that the listing is framed
abbrev pub obeys_rules : Listing → Bool
obeys_rules l = are_labels_lawful l && are_heads_lawful l && are_exports_lawful l && are_natives_known l && are_limits_met l
