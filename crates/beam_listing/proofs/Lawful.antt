-- The instructions of a listing that has a text can be written and read again.
use Rattle.std.proofs.Common.{◌≡◌, ℕ, ◌^◌, ◌<◌, Bool, true, false, List, [], ◌∷◌, ◌++◌, length, Some, refl, subst, arith, Option, None, codes, is_some, option_map, unwrap_or, not, if◌then◌else◌, ◌==◌, ◌&&◌, eqb-true}
use Rattle.std.specs.List.{list_all, All, zip}
use Rattle.std.proofs.lemmas.List.Elements.{All-head, All-tail}
use Rattle.std.proofs.lemmas.Bool.{and_parts}
use Rattle.beam_lemmas.proofs.SameText.{text_is}
use Rattle.beam_lemmas.proofs.Options.{chained, mapped}
use Rattle.beam_model.specs.declared.function.Export.{Export}
use Rattle.beam_model.specs.declared.function.Function.{Function}
use Rattle.beam_model.specs.declared.instruction.Argument.{Argument}
use Rattle.beam_model.specs.declared.instruction.Operand.{Operand}
use Rattle.beam_model.specs.declared.instruction.Instruction.{Instruction}
use Rattle.beam_model.specs.declared.opcode.Opcode.{Opcode}
use Rattle.beam_model.specs.declared.opcode.Kind.{Kind}
use Rattle.beam_model.specs.Prelude.{label_by, label_of, same_text, Stage, start, first_label, informed, body, body_label, after_first_label, within_body, after_body_label, next_stage, functions_from, function_at, all_operands, atom_in, number_in, after_leading_lines, front_label_or_zero, is_func_info, is_line, kinds_of}
use Rattle.beam_term.specs.Prelude.{IsAtomText, int_term, atom_term, reference_term, pid_term, nil_term, pair_term, tuple_term}
use Rattle.beam_model.specs.declared.instruction.Argument.TheVariants as argument
use Rattle.beam_model.specs.declared.instruction.Operand.TheVariants as operand
use Rattle.beam_model.specs.declared.opcode.Opcode.TheVariants as op
use Rattle.beam_model.specs.declared.opcode.Kind.TheVariants as kind
use Rattle.beam_model.specs.ListingForms.{is_end}
use Rattle.beam_listing.specs.Prelude.{IsArgument, IsExport, is_of_kind, is_raise_two, is_built_in, ArgumentHasText, OperandHasText, OperandsHaveText}
use Rattle.beam_listing.specs.Typed.{IsOperand, AreOperands}
use Rattle.beam_listing.proofs.Operands.{IsReadArgument}
use Rattle.beam_listing.proofs.Members.{AreArguments}
use Rattle.beam_listing.proofs.Under.{IsReadOperand, IsBuiltIn, AreUnder}
use Rattle.beam_listing.proofs.HeadForms.{AreExports}
use Rattle.beam_listing.proofs.Printed.{named_function, informed_function, function_in, function_before}
use Rattle.beam_listing.proofs.Items.{AreFunctions, AreInstructions}
use Rattle.beam_listing.proofs.FunctionHeads.{IsNumbered, AreNumbered}

-- ---- operands

read_argument : (a : Argument) → IsArgument a → ArgumentHasText a → IsReadArgument a
read_argument (argument.Term t) is has = (is, has)
read_argument (argument.X n) is has = is
read_argument (argument.Y n) is has = is
read_argument (argument.Label n) is has = is
read_argument (argument.Number n) is has = is

read_arguments : (as' : List Argument) → All IsArgument as' → All ArgumentHasText as' → AreArguments as'
read_arguments [] are have = tt
read_arguments (a ∷ as') are have =
    (read_argument a (All-head IsArgument a as' are) (All-head ArgumentHasText a as' have), read_arguments as' (All-tail IsArgument a as' are) (All-tail ArgumentHasText a as' have))

read_operand : (o : Operand) → IsOperand o → OperandHasText o → IsReadOperand o
read_operand (operand.One a) is has = read_argument a is has
read_operand (operand.Import i) is has = is
read_operand (operand.List as') is has = read_arguments as' is has

-- ---- natives

built_in : (k : Kind) (o : Operand) → is_built_in k o ≡ true → IsBuiltIn k o
built_in (kind.Native n) (operand.One a) e = tt
built_in (kind.Native n) (operand.List as') e = tt
built_in (kind.Native n) (operand.Import i) e =
    let first = and_parts (same_text i.«module» (codes "erlang")) (i.arity == n && not (is_raise_two i)) e in
    let second = and_parts (i.arity == n) (not (is_raise_two i)) first.1 in
    record { «module» = text_is i.«module» (codes "erlang") first.0; arity = eqb-true i.arity n second.0; other = none (is_raise_two i) second.1 }
  where
    none : (b : Bool) → not b ≡ true → b ≡ false
    none true e = absurd cc
    none false e = refl
built_in _ o e = tt

-- ---- instructions

abbrev builds : Kind × Operand → Bool
builds p = is_built_in p.0 p.1

abbrev fits : Kind × Operand → Bool
fits p = is_of_kind p.0 p.1

under_all : (ks : List Kind) (os : List Operand) → length ks ≡ length os → list_all builds (zip ks os) ≡ true → list_all fits (zip ks os) ≡ true
    → All IsOperand os → All OperandHasText os → AreUnder ks os
under_all [] [] e built kinds are have = tt
under_all [] (o ∷ os) e built kinds are have = absurd cc
under_all (k ∷ ks) [] e built kinds are have = absurd cc
under_all (k ∷ ks) (o ∷ os) e built kinds are have =
    let first = and_parts (is_built_in k o) (list_all builds (zip ks os)) built in
    let second = and_parts (is_of_kind k o) (list_all fits (zip ks os)) kinds in (
      record {
        operand = read_operand o (All-head IsOperand o os are) (All-head OperandHasText o os have);
        built_in = built_in k o first.0;
        of_kind = second.0;
      },
      under_all ks os (omega arith) first.1 second.1 (All-tail IsOperand o os are) (All-tail OperandHasText o os have),
    )

under : (ks : List Kind) (os : List Operand) → all_operands is_built_in ks os ≡ true → all_operands is_of_kind ks os ≡ true → All IsOperand os → All OperandHasText os → AreUnder ks os
under ks os built kinds are have =
    let first = and_parts (length ks == length os) (list_all builds (zip ks os)) built in
    let second = and_parts (length ks == length os) (list_all fits (zip ks os)) kinds in
    under_all ks os (eqb-true (length ks) (length os) first.0) first.1 second.1 are have

-- an instruction that can be written
pub record IsLawful (i : Instruction) : Type 0 where
  pub under : AreUnder (kinds_of i.opcode) i.operands
  pub typed : All IsOperand i.operands
  pub ends : is_end i.opcode ≡ false

abbrev pub AreLawful : List Instruction → Type 0
AreLawful [] = Unit {0}
AreLawful (i ∷ rest) = IsLawful i × AreLawful rest

-- ---- the end of the code isn't among them

labels_go_on : {X : Type 0} (o : Opcode) (os : List Operand) (x s : X) → option_map (λ n. x) (label_by o os) ≡ Some s → is_end o ≡ false
labels_go_on op.IntCodeEnd os x s e = absurd cc
labels_go_on _ os x s e = refl

first_goes_on : (name : List ℕ) (o : Opcode) (os : List Operand) (s : Stage) → after_first_label name o os ≡ Some s → is_end o ≡ false
first_goes_on name op.IntCodeEnd os s e = absurd cc
first_goes_on name _ os s e = refl

body_goes_on : (o : Opcode) (s : Stage) → within_body o ≡ Some s → is_end o ≡ false
body_goes_on op.IntCodeEnd s e = absurd cc
body_goes_on _ s e = refl

body_label_goes_on : (name : List ℕ) (o : Opcode) (os : List Operand) (s : Stage) → after_body_label name o os ≡ Some s → is_end o ≡ false
body_label_goes_on name op.IntCodeEnd os s e = absurd cc
body_label_goes_on name _ os s e = refl

goes_on : (name : List ℕ) (stage : Stage) (i : Instruction) (s : Stage) → next_stage name stage i ≡ Some s → is_end i.opcode ≡ false
goes_on name start i s e = labels_go_on i.opcode i.operands first_label s e
goes_on name first_label i s e = first_goes_on name i.opcode i.operands s e
goes_on name (informed f a) i s e = labels_go_on i.opcode i.operands body s e
goes_on name body i s e = body_goes_on i.opcode s e
goes_on name body_label i s e = body_label_goes_on name i.opcode i.operands s e

abbrev has_built_ins : Instruction → Bool
has_built_ins i = all_operands is_built_in (kinds_of i.opcode) i.operands

abbrev has_kinds : Instruction → Bool
has_kinds i = all_operands is_of_kind (kinds_of i.opcode) i.operands

pub lawful : (name : List ℕ) (stage : Stage) (is : List Instruction) (fs : List Function) → functions_from name stage is ≡ Some fs → list_all has_built_ins is ≡ true → list_all has_kinds is ≡ true
    → All AreOperands is → All OperandsHaveText is → AreLawful is
lawful name stage [] fs e built kinds are have = tt
lawful name stage (i ∷ is) fs e built kinds are have =
    let s = chained (λ next. option_map (λ gs. function_at stage i ++ gs) (functions_from name next is)) (next_stage name stage i) fs e in
    let t = mapped (λ gs. function_at stage i ++ gs) (functions_from name s.0 is) fs s.2 in
    let first = and_parts (has_built_ins i) (list_all has_built_ins is) built in
    let second = and_parts (has_kinds i) (list_all has_kinds is) kinds in
    let typed : AreOperands i = All-head AreOperands i is are in (
      record { under = under (kinds_of i.opcode) i.operands first.0 second.0 typed (All-head OperandsHaveText i is have); typed = typed; ends = goes_on name stage i s.0 s.1 },
      lawful name s.0 is t.0 t.1 first.1 second.1 (All-tail AreOperands i is are) (All-tail OperandsHaveText i is have),
    )

-- ---- numbers of labels

number_known : (o : Operand) → is_of_kind kind.Number o ≡ true → is_some (label_by op.Label (o ∷ [])) ≡ true
number_known (operand.One (argument.Term t)) e = absurd cc
number_known (operand.One (argument.X n)) e = absurd cc
number_known (operand.One (argument.Y n)) e = absurd cc
number_known (operand.One (argument.Label n)) e = absurd cc
number_known (operand.One (argument.Number n)) e = refl
number_known (operand.Import i) e = absurd cc
number_known (operand.List as') e = absurd cc

numbered_label : (os : List Operand) → AreUnder (kinds_of op.Label) os → is_some (label_by op.Label os) ≡ true
numbered_label [] are = absurd are
numbered_label (o ∷ []) are = number_known o are.0.of_kind
numbered_label (o ∷ p ∷ os) are = absurd are.1

numbered_by : (o : Opcode) (os : List Operand) → AreUnder (kinds_of o) os → IsNumbered o os
numbered_by op.Label os are = numbered_label os are
numbered_by _ os are = tt

pub numbered : (is : List Instruction) → AreLawful is → AreNumbered is
numbered [] are = tt
numbered (i ∷ is) are = (numbered_by i.opcode i.operands are.0.under, numbered is are.1)

-- ---- functions in front

atom_name : (o : Operand) (name : List ℕ) → IsOperand o → atom_in o ≡ Some name → IsAtomText name
atom_name (operand.One (argument.Term (atom_term text))) name is e = let same : text ≡ name = cc in subst IsAtomText same is.in_range
atom_name (operand.One (argument.Term (int_term z))) name is e = absurd cc
atom_name (operand.One (argument.Term (reference_term node creation words))) name is e = absurd cc
atom_name (operand.One (argument.Term (pid_term node id serial creation))) name is e = absurd cc
atom_name (operand.One (argument.Term nil_term)) name is e = absurd cc
atom_name (operand.One (argument.Term (pair_term h t))) name is e = absurd cc
atom_name (operand.One (argument.Term (tuple_term items))) name is e = absurd cc
atom_name (operand.One (argument.X n)) name is e = absurd cc
atom_name (operand.One (argument.Y n)) name is e = absurd cc
atom_name (operand.One (argument.Label n)) name is e = absurd cc
atom_name (operand.One (argument.Number n)) name is e = absurd cc
atom_name (operand.Import i) name is e = absurd cc
atom_name (operand.List as') name is e = absurd cc

number_fits : (o : Operand) (n : ℕ) → IsOperand o → number_in o ≡ Some n → n < 2 ^ 32
number_fits (operand.One (argument.Number m)) n is e = let same : m ≡ n = cc in omega arith
number_fits (operand.One (argument.Term t)) n is e = absurd cc
number_fits (operand.One (argument.X m)) n is e = absurd cc
number_fits (operand.One (argument.Y m)) n is e = absurd cc
number_fits (operand.One (argument.Label m)) n is e = absurd cc
number_fits (operand.Import i) n is e = absurd cc
number_fits (operand.List as') n is e = absurd cc

label_fits : (o : Opcode) (os : List Operand) → All IsOperand os → unwrap_or (label_by o os) 0 < 2 ^ 32
label_fits op.Label [] are = omega arith
label_fits op.Label (operand.One (argument.Number n) ∷ []) are = let is : n < 2 ^ 32 = All-head IsOperand (operand.One (argument.Number n)) [] are in omega arith
label_fits op.Label (operand.One (argument.Number n) ∷ o ∷ os) are = omega arith
label_fits op.Label (operand.One (argument.Term t) ∷ os) are = omega arith
label_fits op.Label (operand.One (argument.X n) ∷ os) are = omega arith
label_fits op.Label (operand.One (argument.Y n) ∷ os) are = omega arith
label_fits op.Label (operand.One (argument.Label n) ∷ os) are = omega arith
label_fits op.Label (operand.Import i ∷ os) are = omega arith
label_fits op.Label (operand.List as' ∷ os) are = omega arith
label_fits _ os are = omega arith

entry_fits : (is : List Instruction) → AreLawful is → front_label_or_zero is < 2 ^ 32
entry_fits [] are = omega arith
entry_fits (i ∷ is) are = label_fits i.opcode i.operands are.0.typed

named_fits : (name : Option (List ℕ)) (arity : Option ℕ) (entry : ℕ) → ((text : List ℕ) → name ≡ Some text → IsAtomText text) → ((n : ℕ) → arity ≡ Some n → n < 2 ^ 32) → entry < 2 ^ 32
    → AreFunctions (named_function name arity entry)
named_fits (Some name) (Some arity) entry named sized lt = (record { name = named name refl; arity = sized arity refl; entry = lt }, tt)
named_fits (Some name) None entry named sized lt = tt
named_fits None arity entry named sized lt = tt

informed_fits : (os : List Operand) (entry : ℕ) → All IsOperand os → entry < 2 ^ 32 → AreFunctions (informed_function os entry)
informed_fits [] entry are lt = tt
informed_fits (m ∷ []) entry are lt = tt
informed_fits (m ∷ f ∷ []) entry are lt = tt
informed_fits (m ∷ f ∷ a ∷ []) entry are lt =
    let others : All IsOperand (f ∷ a ∷ []) = All-tail IsOperand m (f ∷ a ∷ []) are in
    let arity : IsOperand a = All-head IsOperand a [] (All-tail IsOperand f (a ∷ []) others) in
    named_fits (atom_in f) (number_in a) entry (λ text e. atom_name f text (All-head IsOperand f (a ∷ []) others) e) (λ n e. number_fits a n arity e) lt
informed_fits (m ∷ f ∷ a ∷ o ∷ os) entry are lt = tt

either_fits : (b : Bool) (fs : List Function) → AreFunctions fs → AreFunctions (if b then fs else [])
either_fits true fs are = are
either_fits false fs are = tt

function_fits : (is : List Instruction) → AreLawful is → AreFunctions (function_in is)
function_fits [] are = tt
function_fits (i ∷ is) are = either_fits (is_func_info i.opcode) (informed_function i.operands (front_label_or_zero is)) (informed_fits i.operands (front_label_or_zero is) are.0.typed (entry_fits is are.1))

lines_lawful : (b : Bool) (i : Instruction) (is left : List Instruction) → AreLawful (i ∷ is) → AreLawful left → AreLawful (if b then left else i ∷ is)
lines_lawful true i is left are others = others
lines_lawful false i is left are others = are

behind_lawful : (is : List Instruction) → AreLawful is → AreLawful (after_leading_lines is)
behind_lawful [] are = tt
behind_lawful (i ∷ is) are = lines_lawful (is_line i.opcode) i is (after_leading_lines is) are (behind_lawful is are.1)

pub are_instructions : (is : List Instruction) → AreLawful is → AreInstructions is
are_instructions [] are = tt
are_instructions (i ∷ is) are =
    let before : AreFunctions (function_before i is) = either_fits (is_some (label_of i)) (function_in (after_leading_lines is)) (function_fits (after_leading_lines is) (behind_lawful is are.1)) in
    ((before, record { ends = are.0.ends; operands = are.0.under }), are_instructions is are.1)

-- ---- exports

pub are_exports : (es : List Export) → All IsExport es → AreExports es
are_exports [] are = tt
are_exports (e ∷ es) are = (All-head IsExport e es are, are_exports es (All-tail IsExport e es are))
