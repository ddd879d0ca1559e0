-- The printed instructions of a listing are forms: the form of each function, before its first label, and the form of each instruction.
use Rattle.std.proofs.Common.{◌≡◌, ℕ, Bool, true, false, List, [], ◌∷◌, ◌++◌, Some, refl, sym, ap, ◌∙◌, append_assoc, Option, None, is_some, if◌then◌else◌}
use Rattle.beam_model.specs.declared.function.Function.{Function}
use Rattle.beam_model.specs.declared.instruction.Operand.{Operand}
use Rattle.beam_model.specs.declared.instruction.Instruction.{Instruction}
use Rattle.beam_model.specs.Prelude.{label_of, atom_in, number_in, after_leading_lines, front_label_or_zero, is_func_info, named_text, informed_text, function_line_at, before_text, instruction_text, instructions_text}
use Rattle.beam_listing.proofs.Bodies.{forms_text, function_form}

forms_append : (fs gs : List (List ℕ)) → forms_text (fs ++ gs) ≡ forms_text fs ++ forms_text gs
forms_append [] gs = refl
forms_append (f ∷ fs) gs = ap (λ (t : List ℕ). f ++ (46 ∷ 10 ∷ t)) (forms_append fs gs) ∙ sym (append_assoc f (46 ∷ 10 ∷ forms_text fs) (forms_text gs))

-- ---- the function whose line stands in front of an instruction

abbrev pub function_forms : List Function → List (List ℕ)
function_forms [] = []
function_forms (f ∷ fs) = function_form f ∷ function_forms fs

abbrev pub named_function : Option (List ℕ) → Option ℕ → ℕ → List Function
named_function (Some name) (Some arity) entry = (record { name = name; arity = arity; entry = entry }) ∷ []
named_function (Some name) None entry = []
named_function None a entry = []

abbrev pub informed_function : List Operand → ℕ → List Function
informed_function [] entry = []
informed_function (m ∷ []) entry = []
informed_function (m ∷ f ∷ []) entry = []
informed_function (m ∷ f ∷ a ∷ []) entry = named_function (atom_in f) (number_in a) entry
informed_function (m ∷ f ∷ a ∷ o ∷ os) entry = []

abbrev pub function_in : List Instruction → List Function
function_in [] = []
function_in (i ∷ rest) = if is_func_info i.opcode then informed_function i.operands (front_label_or_zero rest) else []

abbrev pub function_before : Instruction → List Instruction → List Function
function_before i rest = if is_some (label_of i) then function_in (after_leading_lines rest) else []

named_is : (name : Option (List ℕ)) (arity : Option ℕ) (entry : ℕ) → named_text name arity entry ≡ forms_text (function_forms (named_function name arity entry))
named_is (Some name) (Some arity) entry = refl
named_is (Some name) None entry = refl
named_is None (Some arity) entry = refl
named_is None None entry = refl

informed_is : (os : List Operand) (entry : ℕ) → informed_text os entry ≡ forms_text (function_forms (informed_function os entry))
informed_is [] entry = refl
informed_is (m ∷ []) entry = refl
informed_is (m ∷ f ∷ []) entry = refl
informed_is (m ∷ f ∷ a ∷ []) entry = named_is (atom_in f) (number_in a) entry
informed_is (m ∷ f ∷ a ∷ o ∷ os) entry = refl

-- the text and the functions are both there, or neither is
either : (b : Bool) (text : List ℕ) (fs : List Function) → text ≡ forms_text (function_forms fs) → (if b then text else []) ≡ forms_text (function_forms (if b then fs else []))
either true text fs e = e
either false text fs e = refl

function_is : (is : List Instruction) → function_line_at is ≡ forms_text (function_forms (function_in is))
function_is [] = refl
function_is (i ∷ rest) = either (is_func_info i.opcode) (informed_text i.operands (front_label_or_zero rest)) (informed_function i.operands (front_label_or_zero rest)) (informed_is i.operands (front_label_or_zero rest))

before_is : (i : Instruction) (rest : List Instruction) → before_text i rest ≡ forms_text (function_forms (function_before i rest))
before_is i rest = either (is_some (label_of i)) (function_line_at (after_leading_lines rest)) (function_in (after_leading_lines rest)) (function_is (after_leading_lines rest))

-- ---- all forms

abbrev pub instruction_forms : List Instruction → List (List ℕ)
instruction_forms [] = []
instruction_forms (i ∷ rest) = function_forms (function_before i rest) ++ (instruction_text i ∷ instruction_forms rest)

pub instructions_are : (is : List Instruction) → instructions_text is ≡ forms_text (instruction_forms is)
instructions_are [] = refl
instructions_are (i ∷ rest) =
    let before : List (List ℕ) = function_forms (function_before i rest) in
    let text : List ℕ = instruction_text i in
    append_assoc (before_text i rest ++ text) (46 ∷ 10 ∷ []) (instructions_text rest)
    ∙ append_assoc (before_text i rest) text (46 ∷ 10 ∷ instructions_text rest)
    ∙ ap (λ (t : List ℕ). t ++ (text ++ (46 ∷ 10 ∷ instructions_text rest))) (before_is i rest)
    ∙ ap (λ (t : List ℕ). forms_text before ++ (text ++ (46 ∷ 10 ∷ t))) (instructions_are rest)
    ∙ sym (forms_append before (text ∷ instruction_forms rest))
