-- The stages find functions only where these stand in the code.
use Rattle.std.proofs.Common.{◌≡◌, ◌⊎◌, inl, inr, ℕ, Bool, true, false, List, [], ◌∷◌, ◌++◌, Some, refl, sym, ap, subst, ◌∙◌, append_assoc, Option, None, option_map, unwrap_or, if◌then◌else◌}
use Rattle.std.specs.List.{All}
use Rattle.std.proofs.lemmas.List.Elements.{All-nil, All-cons}
use Rattle.std.proofs.lemmas.Slice.Eq.{bytes_eq-Decides}
use Rattle.beam_lemmas.proofs.Options.{chained, mapped}
use Rattle.beam_model.specs.declared.function.Function.{Function}
use Rattle.beam_model.specs.declared.instruction.Operand.{Operand}
use Rattle.beam_model.specs.declared.instruction.Instruction.{Instruction}
use Rattle.beam_model.specs.declared.opcode.Opcode.{Opcode}
use Rattle.beam_model.specs.Prelude.{label_by, label_of, same_text, Stage, start, first_label, informed, body, body_label, atom_in, number_in, informed_from, informed_by, after_first_label, within_body, after_body_label, next_stage, function_at, functions_from, label, func_info, IsLine, IsInBody, IsFunction, AreFunctions}
use Rattle.beam_term.specs.Prelude.{int_term, atom_term, reference_term, pid_term, nil_term, pair_term, tuple_term}
use Rattle.beam_model.specs.declared.instruction.Argument.TheVariants as argument
use Rattle.beam_model.specs.declared.instruction.Operand.TheVariants as operand
use Rattle.beam_model.specs.declared.opcode.Opcode.TheVariants as op

-- ---- label instructions have a number

abbrev pub IsNumbered : Instruction → Type 0
IsNumbered i = i.opcode ≡ op.Label → (n : ℕ) × (i ≡ label n)

abbrev pub AreNumbered : List Instruction → Type 0
AreNumbered [] = Unit {0}
AreNumbered (i ∷ rest) = IsNumbered i × AreNumbered rest

-- ---- the state before code

record AfterBody (name : List ℕ) (fs : List Function) (code : List Instruction) : Type 0 where
  front : List Instruction
  rest : List Instruction
  parts : code ≡ front ++ rest
  is_body : All IsInBody front
  others : AreFunctions name fs rest

record AfterLabel (name : List ℕ) (fs : List Function) (code : List Instruction) : Type 0 where
  f : Function
  gs : List Function
  lines : List Instruction
  front : List Instruction
  rest : List Instruction
  functions : fs ≡ f ∷ gs
  parts : code ≡ lines ++ (func_info name f.name f.arity ∷ label f.entry ∷ (front ++ rest))
  are_lines : All IsLine lines
  is_body : All IsInBody front
  others : AreFunctions name gs rest

record AfterInfo (name : List ℕ) (text : List ℕ) (arity : ℕ) (fs : List Function) (code : List Instruction) : Type 0 where
  entry : ℕ
  gs : List Function
  front : List Instruction
  rest : List Instruction
  functions : fs ≡ (record { name = text; arity = arity; entry = entry }) ∷ gs
  parts : code ≡ label entry ∷ (front ++ rest)
  is_body : All IsInBody front
  others : AreFunctions name gs rest

abbrev Told : List ℕ → Stage → List Function → List Instruction → Type 0
Told name start fs code = AreFunctions name fs code
Told name first_label fs code = AfterLabel name fs code
Told name (informed f a) fs code = AfterInfo name f a fs code
Told name body fs code = AfterBody name fs code
Told name body_label fs code = AfterBody name fs code ⊎ AfterLabel name fs code

at_stage : (name : List ℕ) (s next : Stage) (fs : List Function) (code : List Instruction) → Some s ≡ Some next → Told name next fs code → Told name s fs code
at_stage name s next fs code e h = let same : s ≡ next = cc in subst (λ (t : Stage). Told name t fs code) (sym same) h

-- ---- labels

abbrev made : Opcode → List Operand → Instruction
made o os = record { opcode = o; operands = os }

label_operand : (os : List Operand) (n : ℕ) → label_by op.Label os ≡ Some n → made op.Label os ≡ label n
label_operand [] n e = absurd cc
label_operand (operand.One (argument.Number m) ∷ []) n e = let same : m ≡ n = cc in ap label same
label_operand (operand.One (argument.Number m) ∷ o ∷ os) n e = absurd cc
label_operand (operand.One (argument.Term t) ∷ os) n e = absurd cc
label_operand (operand.One (argument.X m) ∷ os) n e = absurd cc
label_operand (operand.One (argument.Y m) ∷ os) n e = absurd cc
label_operand (operand.One (argument.Label m) ∷ os) n e = absurd cc
label_operand (operand.Import i ∷ os) n e = absurd cc
label_operand (operand.List as' ∷ os) n e = absurd cc

label_made : (o : Opcode) (os : List Operand) (n : ℕ) → label_by o os ≡ Some n → made o os ≡ label n
label_made op.Label os n e = label_operand os n e
label_made _ os n e = absurd cc

pub label_is : (i : Instruction) (n : ℕ) → label_of i ≡ Some n → i ≡ label n
label_is i n e = label_made i.opcode i.operands n e

-- ---- func_info

record Informs (name : List ℕ) (os : List Operand) (next : Stage) : Type 0 where
  text : List ℕ
  arity : ℕ
  is : made op.FuncInfo os ≡ func_info name text arity
  stage : next ≡ informed text arity

atom_is : (o : Operand) (text : List ℕ) → atom_in o ≡ Some text → o ≡ operand.One (argument.Term (atom_term text))
atom_is (operand.One (argument.Term (atom_term t))) text e = let same : t ≡ text = cc in ap (λ (u : List ℕ). operand.One (argument.Term (atom_term u))) same
atom_is (operand.One (argument.Term (int_term z))) text e = absurd cc
atom_is (operand.One (argument.Term (reference_term node creation words))) text e = absurd cc
atom_is (operand.One (argument.Term (pid_term node id serial creation))) text e = absurd cc
atom_is (operand.One (argument.Term nil_term)) text e = absurd cc
atom_is (operand.One (argument.Term (pair_term h t))) text e = absurd cc
atom_is (operand.One (argument.Term (tuple_term items))) text e = absurd cc
atom_is (operand.One (argument.X n)) text e = absurd cc
atom_is (operand.One (argument.Y n)) text e = absurd cc
atom_is (operand.One (argument.Label n)) text e = absurd cc
atom_is (operand.One (argument.Number n)) text e = absurd cc
atom_is (operand.Import i) text e = absurd cc
atom_is (operand.List as') text e = absurd cc

number_is : (o : Operand) (n : ℕ) → number_in o ≡ Some n → o ≡ operand.One (argument.Number n)
number_is (operand.One (argument.Number m)) n e = let same : m ≡ n = cc in ap (λ (k : ℕ). operand.One (argument.Number k)) same
number_is (operand.One (argument.Term t)) n e = absurd cc
number_is (operand.One (argument.X m)) n e = absurd cc
number_is (operand.One (argument.Y m)) n e = absurd cc
number_is (operand.One (argument.Label m)) n e = absurd cc
number_is (operand.Import i) n e = absurd cc
number_is (operand.List as') n e = absurd cc

record Names (name : List ℕ) (m f : Option (List ℕ)) (a : Option ℕ) (next : Stage) : Type 0 where
  text : List ℕ
  arity : ℕ
  owner : m ≡ Some name
  called : f ≡ Some text
  wide : a ≡ Some arity
  stage : next ≡ informed text arity

names_by : (name owner text : List ℕ) (arity : ℕ) (next : Stage) (b : Bool) → same_text owner name ≡ b → (if b then Some (informed text arity) else None) ≡ Some next
    → Names name (Some owner) (Some text) (Some arity) next
names_by name owner text arity next true same e =
    let is : owner ≡ name = (bytes_eq-Decides owner name).0 same in
    let stage : informed text arity ≡ next = cc in
    record { text = text; arity = arity; owner = ap (λ (u : List ℕ). Some u) is; called = refl; wide = refl; stage = sym stage }
names_by name owner text arity next false same e = absurd cc

names : (name : List ℕ) (m f : Option (List ℕ)) (a : Option ℕ) (next : Stage) → informed_from name m f a ≡ Some next → Names name m f a next
names name (Some m) (Some f) (Some a) next e = names_by name m f a next (same_text m name) refl e
names name (Some m) (Some f) None next e = absurd cc
names name (Some m) None a next e = absurd cc
names name None f a next e = absurd cc

three : (m n f g a b : Operand) → m ≡ n → f ≡ g → a ≡ b → made op.FuncInfo (m ∷ f ∷ a ∷ []) ≡ made op.FuncInfo (n ∷ g ∷ b ∷ [])
three m n f g a b e1 e2 e3 = rw (e1, e2, e3) refl

informs : (name : List ℕ) (os : List Operand) (next : Stage) → informed_by name os ≡ Some next → Informs name os next
informs name [] next e = absurd cc
informs name (m ∷ []) next e = absurd cc
informs name (m ∷ f ∷ []) next e = absurd cc
informs name (m ∷ f ∷ a ∷ o ∷ os) next e = absurd cc
informs name (m ∷ f ∷ a ∷ []) next e =
    let n = names name (atom_in m) (atom_in f) (number_in a) next e in
    record {
      text = n.text;
      arity = n.arity;
      is = three m (operand.One (argument.Term (atom_term name))) f (operand.One (argument.Term (atom_term n.text))) a (operand.One (argument.Number n.arity))
          (atom_is m name n.owner) (atom_is f n.text n.called) (number_is a n.arity n.wide);
      stage = n.stage;
    }

-- ---- one instruction

-- a function begins with this label
begins : (name : List ℕ) (n : ℕ) (fs : List Function) (code : List Instruction) → AfterLabel name fs code → AreFunctions name fs (label n ∷ code)
begins name n fs code h =
    let head : List Instruction = func_info name h.f.name h.f.arity ∷ label h.f.entry ∷ h.front in
    let is : IsFunction name h.f (label n ∷ (h.lines ++ head)) = record { first = n; lines = h.lines; body = h.front; parts = refl; are_lines = h.are_lines; is_body = h.is_body } in
    let parts : label n ∷ code ≡ (label n ∷ (h.lines ++ head)) ++ h.rest =
    ap (λ (c : List Instruction). label n ∷ c) (h.parts ∙ sym (append_assoc h.lines head h.rest)) in
    subst (λ (gs : List Function). AreFunctions name gs (label n ∷ code)) (sym h.functions) (label n ∷ (h.lines ++ head), h.rest, parts, is, h.others)

begins_at : (name : List ℕ) (i : Instruction) (n : ℕ) (fs : List Function) (code : List Instruction) → i ≡ label n → AfterLabel name fs code → AreFunctions name fs (i ∷ code)
begins_at name i n fs code e h = subst (λ (j : Instruction). AreFunctions name fs (j ∷ code)) (sym e) (begins name n fs code h)

-- a body with one more part
more_body : (name : List ℕ) (i : Instruction) (fs : List Function) (code : List Instruction) → IsInBody i → AfterBody name fs code → AfterBody name fs (i ∷ code)
more_body name i fs code is h = record {
  front = i ∷ h.front;
  rest = h.rest;
  parts = ap (λ (c : List Instruction). i ∷ c) h.parts;
  is_body = All-cons IsInBody i h.front is h.is_body;
  others = h.others;
}

more_lines : (name : List ℕ) (i : Instruction) (fs : List Function) (code : List Instruction) → IsLine i → AfterLabel name fs code → AfterLabel name fs (i ∷ code)
more_lines name i fs code is h = record {
  f = h.f;
  gs = h.gs;
  lines = i ∷ h.lines;
  front = h.front;
  rest = h.rest;
  functions = h.functions;
  parts = ap (λ (c : List Instruction). i ∷ c) h.parts;
  are_lines = All-cons IsLine i h.lines is h.are_lines;
  is_body = h.is_body;
  others = h.others;
}

no_body : (name : List ℕ) (fs : List Function) (code : List Instruction) → AreFunctions name fs code → AfterBody name fs code
no_body name fs code are = record { front = []; rest = code; parts = refl; is_body = All-nil IsInBody; others = are }

from_info : (name : List ℕ) (os : List Operand) (next : Stage) (fs : List Function) (code : List Instruction) → informed_by name os ≡ Some next → Told name next fs code
    → AfterLabel name fs (made op.FuncInfo os ∷ code)
from_info name os next fs code e h =
    let i = informs name os next e in
    let a : AfterInfo name i.text i.arity fs code = subst (λ (t : Stage). Told name t fs code) i.stage h in
    record {
      f = record { name = i.text; arity = i.arity; entry = a.entry };
      gs = a.gs;
      lines = [];
      front = a.front;
      rest = a.rest;
      functions = a.functions;
      parts = ap (λ (j : Instruction). j ∷ code) i.is ∙ ap (λ (c : List Instruction). func_info name i.text i.arity ∷ c) a.parts;
      are_lines = All-nil IsLine;
      is_body = a.is_body;
      others = a.others;
    }

from_nothing : (name : List ℕ) (i : Instruction) (o : Option ℕ) (next : Stage) (fs : List Function) (code : List Instruction) → label_of i ≡ o → option_map (λ n. first_label) o ≡ Some next
    → Told name next fs code → AreFunctions name fs (i ∷ code)
from_nothing name i (Some n) next fs code e is h = begins_at name i n fs code (label_is i n e) (at_stage name first_label next fs code is h)
from_nothing name i None next fs code e is h = absurd cc

from_first : (name : List ℕ) (o : Opcode) (os : List Operand) (next : Stage) (fs : List Function) (code : List Instruction) → after_first_label name o os ≡ Some next → Told name next fs code
    → AfterLabel name fs (made o os ∷ code)
from_first name op.Line os next fs code e h = more_lines name (made op.Line os) fs code refl (at_stage name first_label next fs code e h)
from_first name op.FuncInfo os next fs code e h = from_info name os next fs code e h
from_first name _ os next fs code e h = absurd cc

from_informed : (name text : List ℕ) (arity : ℕ) (i : Instruction) (o : Option ℕ) (next : Stage) (fs : List Function) (code : List Instruction) → label_of i ≡ o → option_map (λ n. body) o ≡ Some next
    → Told name next fs code → AfterInfo name text arity ((record { name = text; arity = arity; entry = unwrap_or o 0 }) ∷ fs) (i ∷ code)
from_informed name text arity i (Some n) next fs code e is h =
    let b : AfterBody name fs code = at_stage name body next fs code is h in
    record {
      entry = n;
      gs = fs;
      front = b.front;
      rest = b.rest;
      functions = refl;
      parts = ap (λ (j : Instruction). j ∷ code) (label_is i n e) ∙ ap (λ (c : List Instruction). label n ∷ c) b.parts;
      is_body = b.is_body;
      others = b.others;
    }
from_informed name text arity i None next fs code e is h = absurd cc

-- a label of a body, with which the next function may begin
from_label : (name : List ℕ) (i : Instruction) (fs : List Function) (code : List Instruction) → i.opcode ≡ op.Label → IsNumbered i → IsInBody i → Told name body_label fs code → AfterBody name fs (i ∷ code)
from_label name i fs code o is in_body (inl h) = more_body name i fs code in_body h
from_label name i fs code o is in_body (inr h) = let n = is o in no_body name fs (i ∷ code) (begins_at name i n.0 fs code n.1 h)

from_body : (name : List ℕ) (o : Opcode) (os : List Operand) (next : Stage) (fs : List Function) (code : List Instruction) → IsNumbered (made o os) → within_body o ≡ Some next → Told name next fs code
    → AfterBody name fs (made o os ∷ code)
from_body name op.Label os next fs code is e h = from_label name (made op.Label os) fs code refl is (λ q. cc, λ q. cc) (at_stage name body_label next fs code e h)
from_body name op.FuncInfo os next fs code is e h = absurd cc
from_body name op.IntCodeEnd os next fs code is e h = absurd cc
from_body name o os next fs code is e h = more_body name (made o os) fs code (λ q. cc, λ q. cc) (at_stage name body next fs code e h)

from_body_label : (name : List ℕ) (o : Opcode) (os : List Operand) (next : Stage) (fs : List Function) (code : List Instruction) → IsNumbered (made o os) → after_body_label name o os ≡ Some next
    → Told name next fs code → AfterBody name fs (made o os ∷ code) ⊎ AfterLabel name fs (made o os ∷ code)
from_body_label name op.Label os next fs code is e h = inl (from_label name (made op.Label os) fs code refl is (λ q. cc, λ q. cc) (at_stage name body_label next fs code e h))
from_body_label name op.Line os next fs code is e h =
    elim (at_stage name body_label next fs code e h) [
      | inl b ↦ inl (more_body name (made op.Line os) fs code (λ q. cc, λ q. cc) b)
      | inr l ↦ inr (more_lines name (made op.Line os) fs code refl l)
    ]
from_body_label name op.FuncInfo os next fs code is e h = inr (from_info name os next fs code e h)
from_body_label name op.IntCodeEnd os next fs code is e h = absurd cc
from_body_label name o os next fs code is e h = inl (more_body name (made o os) fs code (λ q. cc, λ q. cc) (at_stage name body next fs code e h))

-- ---- all instructions

step : (name : List ℕ) (s next : Stage) (i : Instruction) (fs : List Function) (code : List Instruction) → IsNumbered i → next_stage name s i ≡ Some next → Told name next fs code
    → Told name s (function_at s i ++ fs) (i ∷ code)
step name start next i fs code is e h = from_nothing name i (label_of i) next fs code refl e h
step name first_label next i fs code is e h = from_first name i.opcode i.operands next fs code e h
step name (informed f a) next i fs code is e h = from_informed name f a i (label_of i) next fs code refl e h
step name body next i fs code is e h = from_body name i.opcode i.operands next fs code is e h
step name body_label next i fs code is e h = from_body_label name i.opcode i.operands next fs code is e h

abbrev these : List Function → Option (List Function)
these fs = Some fs

none_left : (fs : List Function) → these [] ≡ these fs → fs ≡ []
none_left fs e = cc

no_functions : (name : List ℕ) (fs : List Function) → these [] ≡ these fs → AreFunctions name fs []
no_functions name fs e = subst (λ (gs : List Function). AreFunctions name gs []) (sym (none_left fs e)) refl

told : (name : List ℕ) (s : Stage) (code : List Instruction) (fs : List Function) → AreNumbered code → functions_from name s code ≡ Some fs → Told name s fs code
told name start [] fs are e = no_functions name fs e
told name first_label [] fs are e = absurd cc
told name (informed f a) [] fs are e = absurd cc
told name body [] fs are e = no_body name fs [] (no_functions name fs e)
told name body_label [] fs are e = inl (no_body name fs [] (no_functions name fs e))
told name s (i ∷ code) fs are e =
    let n = chained (λ next. option_map (λ gs. function_at s i ++ gs) (functions_from name next code)) (next_stage name s i) fs e in
    let t = mapped (λ gs. function_at s i ++ gs) (functions_from name n.0 code) fs n.2 in
    subst (λ (gs : List Function). Told name s gs (i ∷ code)) t.2 (step name s n.0 i t.0 code are.0 n.1 (told name n.0 code t.0 are.1 t.1))

-- the functions that the stages find stand in the code
pub functions_sound : (name : List ℕ) (code : List Instruction) (fs : List Function) → AreNumbered code → functions_from name start code ≡ Some fs → AreFunctions name fs code
functions_sound name code fs are e = told name start code fs are e
