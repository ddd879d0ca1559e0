-- The functions of a listing are found by its stages.
use Rattle.std.proofs.Common.{◌≡◌, ◌≢◌, ℕ, true, List, [], ◌∷◌, ◌++◌, Some, refl, ap, ◌∙◌, append_assoc, Option, None, option_map}
use Rattle.std.specs.List.{All}
use Rattle.std.proofs.lemmas.List.Elements.{All-head, All-tail}
use Rattle.std.proofs.lemmas.Slice.Eq.{bytes_eq-Decides}
use Rattle.beam_model.specs.declared.function.Function.{Function}
use Rattle.beam_model.specs.declared.instruction.Operand.{Operand}
use Rattle.beam_model.specs.declared.instruction.Instruction.{Instruction}
use Rattle.beam_model.specs.declared.opcode.Opcode.{Opcode}
use Rattle.beam_model.specs.Prelude.{same_text, Stage, start, first_label, informed, body, body_label, after_first_label, within_body, after_body_label, next_stage, function_at, functions_from, label, func_info, IsLine, IsInBody, IsFunction, AreFunctions}
use Rattle.beam_model.specs.declared.opcode.Opcode.TheVariants as op

-- an instruction with which no function begins
passes : (name : List ℕ) (s next : Stage) (i : Instruction) (rest : List Instruction) → next_stage name s i ≡ Some next → function_at s i ≡ []
    → functions_from name s (i ∷ rest) ≡ functions_from name next rest
passes name s next i rest e none = rw (e, none) (same (functions_from name next rest))
  where
    same : (o : Option (List Function)) → option_map (λ (fs : List Function). [] ++ fs) o ≡ o
    same None = refl
    same (Some fs) = refl

-- ---- lines

-- stages in which lines may stand before func_info
abbrev Waits : Stage → Type 0
Waits first_label = Unit {0}
Waits body_label = Unit {0}
Waits _ = ⊥

line_stays : (name : List ℕ) (s : Stage) (i : Instruction) → Waits s → IsLine i → next_stage name s i ≡ Some s
line_stays name start i w e = absurd w
line_stays name (informed f a) i w e = absurd w
line_stays name body i w e = absurd w
line_stays name first_label i w e = ap (λ (o : Opcode). after_first_label name o i.operands) e
line_stays name body_label i w e = ap (λ (o : Opcode). after_body_label name o i.operands) e

waits_alone : (s : Stage) (i : Instruction) → Waits s → function_at s i ≡ []
waits_alone start i w = refl
waits_alone first_label i w = refl
waits_alone (informed f a) i w = absurd w
waits_alone body i w = refl
waits_alone body_label i w = refl

lines_passed : (name : List ℕ) (s : Stage) → Waits s → (lines more : List Instruction) → All IsLine lines → functions_from name s (lines ++ more) ≡ functions_from name s more
lines_passed name s w [] more are = refl
lines_passed name s w (i ∷ lines) more are =
    passes name s s i (lines ++ more) (line_stays name s i w (All-head IsLine i lines are)) (waits_alone s i w)
    ∙ lines_passed name s w lines more (All-tail IsLine i lines are)

-- ---- func_info and the entry label

same_as_itself : (text : List ℕ) → same_text text text ≡ true
same_as_itself text = (bytes_eq-Decides text text).1 refl

informs : (name : List ℕ) (s : Stage) (f : Function) → Waits s → next_stage name s (func_info name f.name f.arity) ≡ Some (informed f.name f.arity)
informs name start f w = absurd w
informs name (informed g a) f w = absurd w
informs name body f w = absurd w
informs name first_label f w = rw (same_as_itself name) refl
informs name body_label f w = rw (same_as_itself name) refl

abbrev led : Function → Option (List Function) → Option (List Function)
led f = option_map (λ fs. f ∷ fs)

head_passed : (name : List ℕ) (s : Stage) (f : Function) (lines more : List Instruction) → Waits s → All IsLine lines
    → functions_from name s (lines ++ (func_info name f.name f.arity ∷ label f.entry ∷ more)) ≡ led f (functions_from name body more)
head_passed name s f lines more w are =
    lines_passed name s w lines (func_info name f.name f.arity ∷ label f.entry ∷ more) are
    ∙ passes name s (informed f.name f.arity) (func_info name f.name f.arity) (label f.entry ∷ more) (informs name s f w) (waits_alone s (func_info name f.name f.arity) w)

-- ---- bodies

-- stages of a body
abbrev Inside : Stage → Type 0
Inside body = Unit {0}
Inside body_label = Unit {0}
Inside _ = ⊥

inside_alone : (s : Stage) (i : Instruction) → Inside s → function_at s i ≡ []
inside_alone start i w = refl
inside_alone first_label i w = refl
inside_alone (informed f a) i w = absurd w
inside_alone body i w = refl
inside_alone body_label i w = refl

record Goes (o : Option Stage) : Type 0 where
  next : Stage
  inside : Inside next
  is : o ≡ Some next

from_body : (o : Opcode) → o ≢ op.FuncInfo → o ≢ op.IntCodeEnd → Goes (within_body o)
from_body op.Label n m = record { next = body_label; inside = tt; is = refl }
from_body op.FuncInfo n m = absurd (n refl)
from_body op.IntCodeEnd n m = absurd (m refl)
from_body _ n m = record { next = body; inside = tt; is = refl }

from_label : (name : List ℕ) (o : Opcode) (os : List Operand) → o ≢ op.FuncInfo → o ≢ op.IntCodeEnd → Goes (after_body_label name o os)
from_label name op.Label os n m = record { next = body_label; inside = tt; is = refl }
from_label name op.Line os n m = record { next = body_label; inside = tt; is = refl }
from_label name op.FuncInfo os n m = absurd (n refl)
from_label name op.IntCodeEnd os n m = absurd (m refl)
from_label name _ os n m = record { next = body; inside = tt; is = refl }

goes : (name : List ℕ) (s : Stage) (i : Instruction) → Inside s → IsInBody i → Goes (next_stage name s i)
goes name start i w is = absurd w
goes name first_label i w is = absurd w
goes name (informed f a) i w is = absurd w
goes name body i w is = from_body i.opcode is.0 is.1
goes name body_label i w is = from_label name i.opcode i.operands is.0 is.1

record Passed (name : List ℕ) (whole : Option (List Function)) (more : List Instruction) : Type 0 where
  next : Stage
  inside : Inside next
  is : whole ≡ functions_from name next more

body_passed : (name : List ℕ) (s : Stage) (code more : List Instruction) → Inside s → All IsInBody code → Passed name (functions_from name s (code ++ more)) more
body_passed name s [] more w are = record { next = s; inside = w; is = refl }
body_passed name s (i ∷ code) more w are =
    let g = goes name s i w (All-head IsInBody i code are) in
    let p = body_passed name g.next code more g.inside (All-tail IsInBody i code are) in
    record { next = p.next; inside = p.inside; is = passes name s g.next i (code ++ more) g.is (inside_alone s i w) ∙ p.is }

-- ---- functions

-- stages in front of a function
abbrev Ready : Stage → Type 0
Ready start = Unit {0}
Ready s = Inside s

ready : (s : Stage) → Inside s → Ready s
ready start w = absurd w
ready first_label w = w
ready (informed f a) w = w
ready body w = w
ready body_label w = w

may_stop : (name : List ℕ) (s : Stage) → Ready s → functions_from name s [] ≡ Some []
may_stop name start r = refl
may_stop name first_label r = absurd r
may_stop name (informed f a) r = absurd r
may_stop name body r = refl
may_stop name body_label r = refl

record Labelled (name : List ℕ) (whole : Option (List Function)) (more : List Instruction) : Type 0 where
  next : Stage
  waits : Waits next
  is : whole ≡ functions_from name next more

label_passed : (name : List ℕ) (s : Stage) (n : ℕ) (more : List Instruction) → Ready s → Labelled name (functions_from name s (label n ∷ more)) more
label_passed name first_label n more r = absurd r
label_passed name (informed f a) n more r = absurd r
label_passed name start n more r = record { next = first_label; waits = tt; is = passes name start first_label (label n) more refl refl }
label_passed name body n more r = record { next = body_label; waits = tt; is = passes name body body_label (label n) more refl refl }
label_passed name body_label n more r = record { next = body_label; waits = tt; is = passes name body_label body_label (label n) more refl refl }

parted : (name : List ℕ) (f : Function) (front rest : List Instruction) (h : IsFunction name f front)
    → front ++ rest ≡ label h.first ∷ (h.lines ++ (func_info name f.name f.arity ∷ label f.entry ∷ (h.body ++ rest)))
parted name f front rest h =
    ap (λ (c : List Instruction). c ++ rest) h.parts
    ∙ ap (λ (c : List Instruction). label h.first ∷ c) (append_assoc h.lines (func_info name f.name f.arity ∷ label f.entry ∷ h.body) rest)

found : (name : List ℕ) (s : Stage) (fs : List Function) (code : List Instruction) → Ready s → AreFunctions name fs code → functions_from name s code ≡ Some fs
found name s [] code r are = ap (functions_from name s) are ∙ may_stop name s r
found name s (f ∷ fs) code r (front, rest, parts, h, others) =
    let more : List Instruction = h.lines ++ (func_info name f.name f.arity ∷ label f.entry ∷ (h.body ++ rest)) in
    let l = label_passed name s h.first more r in
    let b = body_passed name body h.body rest tt h.is_body in
    let again : functions_from name b.next rest ≡ Some fs = found name b.next fs rest (ready b.next b.inside) others in
    ap (functions_from name s) (parts ∙ parted name f front rest h)
    ∙ l.is
    ∙ head_passed name l.next f h.lines (h.body ++ rest) l.waits h.are_lines
    ∙ ap (led f) (b.is ∙ again)

-- the stages find the functions that stand in the code
pub functions_complete : (name : List ℕ) (fs : List Function) (code : List Instruction) → AreFunctions name fs code → functions_from name start code ≡ Some fs
functions_complete name fs code are = found name start fs code tt are
