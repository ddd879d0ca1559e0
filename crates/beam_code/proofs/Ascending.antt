-- Labels that stand in the order of their numbers, listed from the first instruction to the last.
use Rattle.std.proofs.Common.{◌≡◌, ℕ, zero, suc, ◌+◌, ◌<◌, ◌≤◌, Bool, true, false, cond, ltb, eqb, List, [], ◌∷◌, ◌++◌, length, get_or, drop, map, Option, Some, None, refl, sym, ap, subst, ◌∙◌, append_assoc, arith, nat_eq, option_map, ltb-false, lt-ltb, le-ltb, eqb-true, eq-eqb, ne_eqb, append-nil}
use Rattle.std.specs.Map.{lookup}
use Rattle.std.proofs.lemmas.Bool.{eqb-false}
use Rattle.std.proofs.lemmas.List.{drop_more, drop_all}
use Rattle.beam_model.specs.declared.instruction.Instruction.{Instruction}
use Rattle.beam_model.specs.Prelude.{is_this_number, label_of}
use Rattle.beam_code.specs.Prelude.{byte_after, AreAscending, bound_after, with_label, ascending_from}

abbrev Labels : Type 0
Labels = List (ℕ × ℕ)

-- ---- the loop

-- the labels so far, and then those of the rest
abbrev pub with_before : Labels → Option Labels → Option Labels
with_before front left = option_map (λ ls. front ++ ls) left

pub before_start : (o : Option Labels) → with_before [] o ≡ o
before_start (Some ls) = refl
before_start None = refl

regroup : (front : Labels) (l : ℕ × ℕ) (o : Option Labels) → with_before front (option_map (λ ls. l ∷ ls) o) ≡ with_before (front ++ l ∷ []) o
regroup front l (Some ls) = ap (λ (ms : Labels). Some ms) (sym (append_assoc front (l ∷ []) ls))
regroup front l None = refl

-- the bytes at which instructions end that begin at these
abbrev pub ends_of : List ℕ → ℕ → List ℕ
ends_of starts end = drop 1 starts ++ end ∷ []

ends_more : (starts : List ℕ) (end at : ℕ) → at < length starts → drop at (ends_of starts end) ≡ get_or starts (suc at) end ∷ drop (suc at) (ends_of starts end)
ends_more [] end at lt = absurd (omega arith)
ends_more (s ∷ []) end zero lt = refl
ends_more (s ∷ t ∷ starts) end zero lt = refl
ends_more (s ∷ []) end (suc at) lt = absurd (omega arith)
ends_more (s ∷ t ∷ starts) end (suc at) lt = ends_more (t ∷ starts) end at (omega arith)

-- the loop's position: an instruction, and the byte after it
pub record IsNext (is : List Instruction) (starts : List ℕ) (end at : ℕ) (i : Instruction) (byte : ℕ) : Type 0 where
  pub as_many : length starts ≡ length is
  pub within : at < length is
  pub there : i ≡ get_or is at i
  pub behind : byte ≡ get_or starts (at + 1) end

-- the labels of the instructions from a position on
abbrev pub left_at : ℕ → List Instruction → List ℕ → ℕ → ℕ → Option Labels
left_at least is starts end at = ascending_from least (drop at is) (drop at (ends_of starts end))

one_more : (least : ℕ) (is : List Instruction) (starts : List ℕ) (end at : ℕ) (i : Instruction) (byte : ℕ) → IsNext is starts end at i byte
    → left_at least is starts end at ≡ with_label least byte (label_of i) (left_at (bound_after least (label_of i)) is starts end (at + 1))
unfolding ascending_from
one_more least is starts end at i byte n =
    let within : at < length is = n.within in
    let as_many : length starts ≡ length is = n.as_many in
    let on : suc at ≡ at + 1 = omega arith in
    let here : drop at is ≡ i ∷ drop (at + 1) is = drop_more is at i within ∙ ap (λ (j : Instruction). j ∷ drop (at + 1) is) (sym n.there) in
    let ends : drop at (ends_of starts end) ≡ byte ∷ drop (at + 1) (ends_of starts end) =
    ends_more starts end at (omega (arith, within, as_many))
    ∙ ap (λ (k : ℕ). get_or starts k end ∷ drop k (ends_of starts end)) on
    ∙ ap (λ (b : ℕ). b ∷ drop (at + 1) (ends_of starts end)) (sym n.behind) in
    ap (λ (js : List Instruction). ascending_from least js (drop at (ends_of starts end))) here
    ∙ ap (λ (es : List ℕ). ascending_from least (i ∷ drop (at + 1) is) es) ends

labelled : (least : ℕ) (is : List Instruction) (starts : List ℕ) (end at : ℕ) (i : Instruction) (byte : ℕ) (o : Option ℕ) → IsNext is starts end at i byte → o ≡ label_of i
    → left_at least is starts end at ≡ with_label least byte o (left_at (bound_after least o) is starts end (at + 1))
labelled least is starts end at i byte o n e =
    one_more least is starts end at i byte n ∙ ap (λ (p : Option ℕ). with_label least byte p (left_at (bound_after least p) is starts end (at + 1))) (sym e)

pub no_label : (least : ℕ) (is : List Instruction) (starts : List ℕ) (end at : ℕ) (i : Instruction) (byte : ℕ) (front : Labels) (all : Option Labels) → IsNext is starts end at i byte → None ≡ label_of i
    → with_before front (left_at least is starts end at) ≡ all → with_before front (left_at least is starts end (at + 1)) ≡ all
no_label least is starts end at i byte front all n e so_far = ap (with_before front) (sym (labelled least is starts end at i byte None n e)) ∙ so_far

pub label_below : (least : ℕ) (is : List Instruction) (starts : List ℕ) (end at : ℕ) (i : Instruction) (byte label : ℕ) (front : Labels) (all : Option Labels) → IsNext is starts end at i byte → Some label ≡ label_of i
    → label < least → with_before front (left_at least is starts end at) ≡ all → None ≡ all
label_below least is starts end at i byte label front all n e lt so_far =
    let below : ltb label least ≡ true = lt-ltb _ _ lt in
    let none : left_at least is starts end at ≡ None =
    labelled least is starts end at i byte (Some label) n e
    ∙ ap (λ (b : Bool). cond b None (option_map (λ ls. (label, byte) ∷ ls) (left_at (label + 1) is starts end (at + 1)))) below in
    ap (with_before front) (sym none) ∙ so_far

pub label_more : (least : ℕ) (is : List Instruction) (starts : List ℕ) (end at : ℕ) (i : Instruction) (byte label : ℕ) (front : Labels) (all : Option Labels) → IsNext is starts end at i byte → Some label ≡ label_of i
    → least ≤ label → with_before front (left_at least is starts end at) ≡ all → with_before (front ++ (label, byte) ∷ []) (left_at (label + 1) is starts end (at + 1)) ≡ all
label_more least is starts end at i byte label front all n e le so_far =
    let above : ltb label least ≡ false = le-ltb _ _ le in
    let left : left_at least is starts end at ≡ option_map (λ ls. (label, byte) ∷ ls) (left_at (label + 1) is starts end (at + 1)) =
    labelled least is starts end at i byte (Some label) n e
    ∙ ap (λ (b : Bool). cond b None (option_map (λ ls. (label, byte) ∷ ls) (left_at (label + 1) is starts end (at + 1)))) above in
    sym (regroup front (label, byte) (left_at (label + 1) is starts end (at + 1))) ∙ ap (with_before front) (sym left) ∙ so_far

pub labels_done : (least : ℕ) (is : List Instruction) (starts : List ℕ) (end at : ℕ) (front : Labels) (all : Option Labels) → length is ≤ at → with_before front (left_at least is starts end at) ≡ all → Some front ≡ all
unfolding ascending_from
labels_done least is starts end at front all le so_far =
    let none : left_at least is starts end at ≡ Some [] = ap (λ (js : List Instruction). ascending_from least js (drop at (ends_of starts end))) (drop_all at is le) in
    ap (λ (ls : Labels). Some ls) (sym (append-nil front)) ∙ ap (with_before front) (sym none) ∙ so_far

-- ---- what the labels are

-- the first label is at least this number
abbrev IsFrom : ℕ → Labels → Type 0
IsFrom least [] = Unit {0}
IsFrom least (l ∷ ls) = least ≤ l.0

-- the labels ascend, the first is at least this number, and each stands with the byte after its label instruction
pub record AreFrom (least : ℕ) (after : ℕ → Option ℕ) (ls : Labels) : Type 0 where
  pub order : AreAscending (map (λ l. l.0) ls)
  low : IsFrom least ls
  pub bytes : (label : ℕ) → lookup (nat_eq label) ls ≡ after label

abbrev AreIfAny : ℕ → (ℕ → Option ℕ) → Option Labels → Type 0
AreIfAny least after None = Unit {0}
AreIfAny least after (Some ls) = AreFrom least after ls

ordered : (m : ℕ) (ls : Labels) → IsFrom (m + 1) ls → AreAscending (map (λ l. l.0) ls) → AreAscending (m ∷ map (λ l. l.0) ls)
ordered m [] low order = tt
ordered m (l ∷ ls) low order = (omega (arith, low), order)

same_test : (a b : ℕ) → eqb a b ≡ eqb b a
same_test a b = by (eqb b a) refl
  where
    by : (t : Bool) → eqb b a ≡ t → eqb a b ≡ t
    by true e = eq-eqb a b (sym (eqb-true _ _ e))
    by false e = ne_eqb a b (λ same. absurd (eqb-false _ _ e (sym same)))

abbrev after_label : ℕ → Option ℕ → (ℕ → Option ℕ) → ℕ → Option ℕ
after_label end o after label = cond (is_this_number label o) (Some end) (after label)

with_more : (least end m : ℕ) (after : ℕ → Option ℕ) (ls : Labels) → least ≤ m → AreFrom (m + 1) after ls → AreFrom least (after_label end (Some m) after) ((m, end) ∷ ls)
with_more least end m after ls le h = record {
  order = ordered m ls h.low h.order;
  low = le;
  bytes = λ label. ap (λ (b : Bool). cond b (Some end) (lookup (nat_eq label) ls)) (same_test label m) ∙ ap (λ (o : Option ℕ). cond (eqb m label) (Some end) o) (h.bytes label);
}

with_any : (least end : ℕ) (after : ℕ → Option ℕ) (o : Option ℕ) (rest : Option Labels) → AreIfAny (bound_after least o) after rest → AreIfAny least (after_label end o after) (with_label least end o rest)
with_any least end after None rest h = h
with_any least end after (Some m) rest h = by (ltb m least) refl rest h
  where
    by : (b : Bool) → ltb m least ≡ b → (rest : Option Labels) → AreIfAny (m + 1) after rest → AreIfAny least (after_label end (Some m) after) (cond b None (option_map (λ ls. (m, end) ∷ ls) rest))
    by true e rest h = tt
    by false e None h = tt
    by false e (Some ls) h = with_more least end m after ls (ltb-false _ _ e) h

are_if_any : (least : ℕ) (is : List Instruction) (ends : List ℕ) → AreIfAny least (λ label. byte_after label is ends) (ascending_from least is ends)
unfolding ascending_from
are_if_any least [] ends = record { order = tt; low = tt; bytes = λ label. refl }
are_if_any least (i ∷ is) [] = record { order = tt; low = tt; bytes = λ label. refl }
are_if_any least (i ∷ is) (end ∷ ends) =
    with_any least end (λ label. byte_after label is ends) (label_of i) (ascending_from (bound_after least (label_of i)) is ends) (are_if_any (bound_after least (label_of i)) is ends)

pub ascending_are : (is : List Instruction) (ends : List ℕ) (ls : Labels) → Some ls ≡ ascending_from 0 is ends → AreFrom 0 (λ label. byte_after label is ends) ls
ascending_are is ends ls e = subst (AreIfAny 0 (λ label. byte_after label is ends)) (sym e) (are_if_any 0 is ends)
