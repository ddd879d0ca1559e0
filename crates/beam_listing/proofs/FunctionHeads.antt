-- The functions whose lines are printed are those of the listing, where its heads are lawful.
use Rattle.std.proofs.Common.{◌≡◌, ℕ, Bool, true, false, List, [], ◌∷◌, ◌++◌, Some, refl, sym, ap, ◌∙◌, append_assoc, append-nil, Option, None, option_map, is_some, unwrap_or, if◌then◌else◌}
use Rattle.std.proofs.lemmas.Option.{same_Some}
use Rattle.beam_lemmas.proofs.Options.{chained, mapped}
use Rattle.beam_model.specs.declared.function.Function.{Function}
use Rattle.beam_model.specs.declared.instruction.Operand.{Operand}
use Rattle.beam_model.specs.declared.instruction.Instruction.{Instruction}
use Rattle.beam_model.specs.declared.opcode.Opcode.{Opcode}
use Rattle.beam_model.specs.Prelude.{label_by, label_of, same_text, Stage, start, first_label, informed, body, body_label, atom_in, number_in, informed_from, informed_by, after_first_label, within_body, after_body_label, next_stage, function_at, functions_from, after_leading_lines, front_label_or_zero}
use Rattle.beam_model.specs.declared.opcode.Opcode.TheVariants as op
use Rattle.beam_listing.proofs.Printed.{named_function, informed_function, function_in, function_before}
use Rattle.beam_listing.proofs.Added.{IsLed, functions_in}

-- ---- functions whose lines were printed

-- the function whose line was printed, and whose entry label isn't reached
abbrev ahead : Stage → List Instruction → List Function
ahead start is = []
ahead first_label is = function_in (after_leading_lines is)
ahead (informed f a) is = (record { name = f; arity = a; entry = front_label_or_zero is }) ∷ []
ahead body is = []
ahead body_label is = function_in (after_leading_lines is)

-- a label instruction has a number
abbrev pub IsNumbered : Opcode → List Operand → Type 0
IsNumbered op.Label os = is_some (label_by op.Label os) ≡ true
IsNumbered _ os = Unit {0}

abbrev pub AreNumbered : List Instruction → Type 0
AreNumbered [] = Unit {0}
AreNumbered (i ∷ rest) = IsNumbered i.opcode i.operands × AreNumbered rest

abbrev made : Opcode → List Operand → Instruction
made o os = record { opcode = o; operands = os }

-- the function in front of an instruction, if this is a label
abbrev if_label : Option ℕ → List Instruction → List Function
if_label label rest = if is_some label then function_in (after_leading_lines rest) else []

-- ---- func_info

named_ahead : (b : Bool) (f : List ℕ) (a : ℕ) (next : Stage) (rest : List Instruction) → (if b then Some (informed f a) else None) ≡ Some next
    → ahead next rest ≡ (record { name = f; arity = a; entry = front_label_or_zero rest }) ∷ []
named_ahead true f a next rest e = let same : informed f a ≡ next = cc in ap (λ (s : Stage). ahead s rest) (sym same)
named_ahead false f a next rest e = absurd cc

from_names : (name : List ℕ) (m f : Option (List ℕ)) (a : Option ℕ) (next : Stage) (rest : List Instruction) → informed_from name m f a ≡ Some next → ahead next rest ≡ named_function f a (front_label_or_zero rest)
from_names name (Some m) (Some f) (Some a) next rest e = named_ahead (same_text m name) f a next rest e
from_names name (Some m) (Some f) None next rest e = absurd cc
from_names name (Some m) None a next rest e = absurd cc
from_names name None f a next rest e = absurd cc

from_func_info : (name : List ℕ) (os : List Operand) (next : Stage) (rest : List Instruction) → informed_by name os ≡ Some next → ahead next rest ≡ informed_function os (front_label_or_zero rest)
from_func_info name [] next rest e = absurd cc
from_func_info name (m ∷ []) next rest e = absurd cc
from_func_info name (m ∷ f ∷ []) next rest e = absurd cc
from_func_info name (m ∷ f ∷ a ∷ []) next rest e = from_names name (atom_in m) (atom_in f) (number_in a) next rest e
from_func_info name (m ∷ f ∷ a ∷ o ∷ os) next rest e = absurd cc

-- ---- one instruction

at_stage : (s next : Stage) (rest : List Instruction) → s ≡ next → ahead next rest ≡ ahead s rest
at_stage s next rest same = ap (λ (t : Stage). ahead t rest) (sym same)

from_nothing : (label : Option ℕ) (next : Stage) (rest : List Instruction) → option_map (λ n. first_label) label ≡ Some next → ahead next rest ≡ if_label label rest
from_nothing (Some n) next rest e = at_stage first_label next rest (same_Some first_label next e)
from_nothing None next rest e = absurd cc

from_first_label : (name : List ℕ) (o : Opcode) (os : List Operand) (next : Stage) (rest : List Instruction) → after_first_label name o os ≡ Some next
    → ahead next rest ≡ function_in (after_leading_lines (made o os ∷ rest)) ++ if_label (label_by o os) rest
from_first_label name op.Line os next rest e = at_stage first_label next rest (same_Some first_label next e) ∙ sym (append-nil (function_in (after_leading_lines rest)))
from_first_label name op.FuncInfo os next rest e = from_func_info name os next rest e ∙ sym (append-nil (informed_function os (front_label_or_zero rest)))
from_first_label name _ os next rest e = absurd cc

from_informed : (label : Option ℕ) (f : Function) (next : Stage) (rest : List Instruction) → option_map (λ n. body) label ≡ Some next
    → (body ≡ next → function_in (after_leading_lines rest) ≡ []) → f ∷ ahead next rest ≡ f ∷ if_label label rest
from_informed (Some n) f next rest e none =
    let same : body ≡ next = same_Some body next e in
    ap (λ (fs : List Function). f ∷ fs) (at_stage body next rest same ∙ sym (none same))
from_informed None f next rest e none = absurd cc

numbered : (label : Option ℕ) (rest : List Instruction) → is_some label ≡ true → if_label label rest ≡ function_in (after_leading_lines rest)
numbered (Some n) rest e = refl
numbered None rest e = absurd cc

from_body : (o : Opcode) (os : List Operand) (next : Stage) (rest : List Instruction) → IsNumbered o os → within_body o ≡ Some next → ahead next rest ≡ if_label (label_by o os) rest
from_body op.Label os next rest is e = at_stage body_label next rest (same_Some body_label next e) ∙ sym (numbered (label_by op.Label os) rest is)
from_body op.FuncInfo os next rest is e = absurd cc
from_body op.IntCodeEnd os next rest is e = absurd cc
from_body _ os next rest is e = at_stage body next rest (same_Some body next e)

from_body_label : (name : List ℕ) (o : Opcode) (os : List Operand) (next : Stage) (rest : List Instruction) → IsNumbered o os → after_body_label name o os ≡ Some next
    → ahead next rest ≡ function_in (after_leading_lines (made o os ∷ rest)) ++ if_label (label_by o os) rest
from_body_label name op.Label os next rest is e = at_stage body_label next rest (same_Some body_label next e) ∙ sym (numbered (label_by op.Label os) rest is)
from_body_label name op.Line os next rest is e = at_stage body_label next rest (same_Some body_label next e) ∙ sym (append-nil (function_in (after_leading_lines rest)))
from_body_label name op.FuncInfo os next rest is e = from_func_info name os next rest e ∙ sym (append-nil (informed_function os (front_label_or_zero rest)))
from_body_label name op.IntCodeEnd os next rest is e = absurd cc
from_body_label name _ os next rest is e = at_stage body next rest (same_Some body next e)

-- ---- after an entry label

-- no func_info stands after the lines of a body
body_one : (o : Opcode) (os : List Operand) (next : Stage) (rest : List Instruction) → within_body o ≡ Some next → (body ≡ next → function_in (after_leading_lines rest) ≡ [])
    → function_in (after_leading_lines (made o os ∷ rest)) ≡ []
body_one op.Line os next rest e others = others (same_Some body next e)
body_one op.FuncInfo os next rest e others = absurd cc
body_one _ os next rest e others = refl

abbrev from_next : List ℕ → Stage → Instruction → List Instruction → Stage → Option (List Function)
from_next name s i rest next = option_map (λ gs. function_at s i ++ gs) (functions_from name next rest)

body_none : (name : List ℕ) (is : List Instruction) (fs : List Function) → functions_from name body is ≡ Some fs → function_in (after_leading_lines is) ≡ []
body_none name [] fs e = refl
body_none name (i ∷ rest) fs e =
    let s = chained (from_next name body i rest) (next_stage name body i) fs e in
    let t = mapped (λ gs. function_at body i ++ gs) (functions_from name s.0 rest) fs s.2 in
    body_one i.opcode i.operands s.0 rest s.1 (λ same. body_none name rest t.0 (ap (λ (stage : Stage). functions_from name stage rest) same ∙ t.1))

-- ---- all instructions

step : (name : List ℕ) (s next : Stage) (i : Instruction) (rest : List Instruction) (gs : List Function) → IsNumbered i.opcode i.operands → next_stage name s i ≡ Some next
    → functions_from name next rest ≡ Some gs → function_at s i ++ ahead next rest ≡ ahead s (i ∷ rest) ++ function_before i rest
step name start next i rest gs is e others = from_nothing (label_of i) next rest e
step name first_label next i rest gs is e others = from_first_label name i.opcode i.operands next rest e
step name (informed f a) next i rest gs is e others =
    from_informed (label_of i) (record { name = f; arity = a; entry = unwrap_or (label_of i) 0 }) next rest e
    (λ same. body_none name rest gs (ap (λ (stage : Stage). functions_from name stage rest) same ∙ others))
step name body next i rest gs is e others = from_body i.opcode i.operands next rest is e
step name body_label next i rest gs is e others = from_body_label name i.opcode i.operands next rest is e

abbrev these : List Function → Option (List Function)
these fs = Some fs

nothing_left : (fs : List Function) → these [] ≡ these fs → fs ≡ []
nothing_left fs e = cc

pub functions_are : (name : List ℕ) (s : Stage) (is : List Instruction) (fs : List Function) → AreNumbered is → functions_from name s is ≡ Some fs → fs ≡ ahead s is ++ functions_in is
functions_are name start [] fs are e = nothing_left fs e
functions_are name first_label [] fs are e = absurd cc
functions_are name (informed f a) [] fs are e = absurd cc
functions_are name body [] fs are e = nothing_left fs e
functions_are name body_label [] fs are e = nothing_left fs e
functions_are name s (i ∷ rest) fs are e =
    let n = chained (from_next name s i rest) (next_stage name s i) fs e in
    let t = mapped (λ gs. function_at s i ++ gs) (functions_from name n.0 rest) fs n.2 in
    let again : t.0 ≡ ahead n.0 rest ++ functions_in rest = functions_are name n.0 rest t.0 are.1 t.1 in
    sym t.2 ∙ ap (λ (gs : List Function). function_at s i ++ gs) again
    ∙ sym (append_assoc (function_at s i) (ahead n.0 rest) (functions_in rest))
    ∙ ap (λ (gs : List Function). gs ++ functions_in rest) (step name s n.0 i rest t.0 are.0 n.1 t.1)
    ∙ append_assoc (ahead s (i ∷ rest)) (function_before i rest) (functions_in rest)

-- ---- the first function

names_some : (name : List ℕ) (m f : Option (List ℕ)) (a : Option ℕ) (entry : ℕ) (next : Stage) → informed_from name m f a ≡ Some next → IsLed (named_function f a entry)
names_some name (Some m) (Some f) (Some a) entry next e = refl
names_some name (Some m) (Some f) None entry next e = absurd cc
names_some name (Some m) None a entry next e = absurd cc
names_some name None f a entry next e = absurd cc

func_info_some : (name : List ℕ) (os : List Operand) (entry : ℕ) (next : Stage) → informed_by name os ≡ Some next → IsLed (informed_function os entry)
func_info_some name [] entry next e = absurd cc
func_info_some name (m ∷ []) entry next e = absurd cc
func_info_some name (m ∷ f ∷ []) entry next e = absurd cc
func_info_some name (m ∷ f ∷ a ∷ []) entry next e = names_some name (atom_in m) (atom_in f) (number_in a) entry next e
func_info_some name (m ∷ f ∷ a ∷ o ∷ os) entry next e = absurd cc

first_one : (name : List ℕ) (o : Opcode) (os : List Operand) (next : Stage) (rest : List Instruction) → after_first_label name o os ≡ Some next
    → (first_label ≡ next → IsLed (function_in (after_leading_lines rest))) → IsLed (function_in (after_leading_lines (made o os ∷ rest)))
first_one name op.Line os next rest e others = others (same_Some first_label next e)
first_one name op.FuncInfo os next rest e others = func_info_some name os (front_label_or_zero rest) next e
first_one name _ os next rest e others = absurd cc

first_some : (name : List ℕ) (is : List Instruction) (fs : List Function) → functions_from name first_label is ≡ Some fs → IsLed (function_in (after_leading_lines is))
first_some name [] fs e = absurd cc
first_some name (i ∷ rest) fs e =
    let s = chained (from_next name first_label i rest) (next_stage name first_label i) fs e in
    let t = mapped (λ gs. function_at first_label i ++ gs) (functions_from name s.0 rest) fs s.2 in
    first_one name i.opcode i.operands s.0 rest s.1 (λ same. first_some name rest t.0 (ap (λ (stage : Stage). functions_from name stage rest) same ∙ t.1))

label_some : (label : Option ℕ) (next : Stage) (rest : List Instruction) → option_map (λ n. first_label) label ≡ Some next → (first_label ≡ next → IsLed (function_in (after_leading_lines rest))) → IsLed (if_label label rest)
label_some (Some n) next rest e others = others (same_Some first_label next e)
label_some None next rest e others = absurd cc

-- a function's line stands in front of the first instruction
pub begins : (name : List ℕ) (i : Instruction) (rest : List Instruction) (fs : List Function) → functions_from name start (i ∷ rest) ≡ Some fs → IsLed (function_before i rest)
begins name i rest fs e =
    let s = chained (from_next name start i rest) (next_stage name start i) fs e in
    let t = mapped (λ gs. function_at start i ++ gs) (functions_from name s.0 rest) fs s.2 in
    label_some (label_of i) s.0 rest s.1 (λ same. first_some name rest t.0 (ap (λ (stage : Stage). functions_from name stage rest) same ∙ t.1))
