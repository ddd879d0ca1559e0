-- The elements that are read of a text in brackets are exactly those that stand there.
use Rattle.std.proofs.Common.{◌≡◌, ◌≢◌, ℕ, zero, suc, ◌≤◌, Bool, true, false, cond, List, [], ◌∷◌, ◌++◌, length, take, drop, Option, Some, None, refl, sym, ap, subst, ◌∙◌, append_assoc, arith, ◌==◌, ◌||◌, eqb-true, append-nil, take_at, drop_at, take-append-drop, length-take, length-drop, length-append}
use Rattle.std.proofs.lemmas.Option.{same_Some}
use Rattle.beam_erltext.proofs.Texts.{differ}
use Rattle.beam_model.specs.declared.lex_state.LexState.TheVariants as inside
use Rattle.beam_model.specs.Prelude.{is_closing, is_stop, stop_from, stop_in, alone, elements_after, element_by, elements_from, elements_within, bracketed_elements, tuple_parts, list_parts, is_blank, after_blanks}
use Rattle.beam_model.specs.Forms.{◌>>=◌}
use Rattle.beam_listing.specs.Prelude.{HasNoMargin, AreBlanks, IsElement, AreElements, AreBracketed}
use Rattle.beam_listing.proofs.Balanced.{balanced_told, balanced_read}
use Rattle.beam_listing.proofs.FrontForms.{no_margin, margin, after_margin, begins}

-- ---- elements that are read stand in the text

alone_is : {A : Type 0} (x y : A) (text : List ℕ) → alone x text ≡ Some y → (x ≡ y) × (text ≡ [])
alone_is x y [] e = (same_Some x y e, refl)
alone_is x y (c ∷ cs) e = absurd cc

all_blank : (text : List ℕ) → after_blanks text ≡ [] → AreBlanks text
all_blank text e =
    let m = margin text in
    subst AreBlanks (sym (m.parts ∙ ap (λ (t : List ℕ). m.blanks ++ t) e ∙ append-nil m.blanks)) m.are_blanks

blanks_all : (blanks : List ℕ) → AreBlanks blanks → after_blanks blanks ≡ []
blanks_all blanks are = ap after_blanks (sym (append-nil blanks)) ∙ after_margin blanks [] are tt

record Elements (close : ℕ) (before all : List (List ℕ)) (text : List ℕ) : Type 0 where
  first : List ℕ
  others : List (List ℕ)
  sum : all ≡ before ++ (first ∷ others)
  are : AreElements close (first ∷ others) text

-- an element of a size, and the mark and the bytes after it
record Sized (text : List ℕ) (size : ℕ) (mark : ℕ) (cs : List ℕ) : Type 0 where
  parts : text ≡ take size text ++ (mark ∷ cs)
  is : IsElement (take size text)

sized : (text : List ℕ) (size mark : ℕ) (cs : List ℕ) → HasNoMargin text → stop_in 44 text ≡ Some size → (size == 0) ≡ false → drop size text ≡ mark ∷ cs → Sized text size mark cs
sized text size mark cs h s some e =
    let parts : text ≡ take size text ++ (mark ∷ cs) = sym (take-append-drop size text) ∙ ap (λ (t : List ℕ). take size text ++ t) e in
    let count : size ≡ length (take size text) = omega (arith, length-take size text, length-drop size text, ap length e) in
    let full : (length (take size text) == 0) ≡ false = ap (λ (n : ℕ). n == 0) (sym count) ∙ some in
    record {
      parts = parts;
      is = record {
        some = λ none. let zero_size : (length (take size text) == 0) ≡ true = ap (λ (t : List ℕ). length t == 0) none in let both : true ≡ false = sym zero_size ∙ full in absurd cc (both);
        begins = begins text (take size text) (mark ∷ cs) h parts;
        balanced = balanced_told 44 (take size text) mark cs (ap (stop_in 44) (sym parts) ∙ s ∙ ap (λ (k : ℕ). Some k) count);
      };
    }

-- further elements that are read stand in the text
abbrev Further : (List (List ℕ) → List ℕ → Option (List (List ℕ))) → ℕ → List (List ℕ) → Type 0
Further more close all = (before : List (List ℕ)) (rest : List ℕ) → HasNoMargin rest → more before rest ≡ Some all → Elements close before all rest

by_behind : (more : List (List ℕ) → List ℕ → Option (List (List ℕ))) (close : ℕ) (before all : List (List ℕ)) (text : List ℕ) (size : ℕ) (behind : List ℕ) → HasNoMargin text
    → stop_in 44 text ≡ Some size → (size == 0) ≡ false → drop size text ≡ behind
    → elements_after (more (before ++ take size text ∷ [])) close (before ++ take size text ∷ []) behind ≡ Some all → Further more close all → Elements close before all text
by_behind more close before all text size [] h s some d e further = absurd cc (e)
by_behind more close before all text size (c ∷ cs) h s some d e further = by (c == 44) (c == close) refl refl e
  where
    by : (b k : Bool) → (c == 44) ≡ b → (c == close) ≡ k
        → cond b (more (before ++ take size text ∷ []) (after_blanks cs)) (cond k (alone (before ++ take size text ∷ []) (after_blanks cs)) None) ≡ Some all → Elements close before all text
    by true k t u f =
        let z = sized text size 44 cs h s some (d ∙ ap (λ (x : ℕ). x ∷ cs) (eqb-true c 44 t)) in
        let x = further (before ++ take size text ∷ []) (after_blanks cs) (no_margin cs) f in
        let m = margin cs in
        record {
          first = take size text;
          others = x.first ∷ x.others;
          sum = x.sum ∙ append_assoc before (take size text ∷ []) (x.first ∷ x.others);
          are = (m.blanks, after_blanks cs, z.parts ∙ ap (λ (t : List ℕ). take size text ++ (44 ∷ t)) m.parts, z.is, m.are_blanks, x.are);
        }
    by false true t u f =
        let z = sized text size close cs h s some (d ∙ ap (λ (x : ℕ). x ∷ cs) (eqb-true c close u)) in
        let a = alone_is (before ++ take size text ∷ []) all (after_blanks cs) f in
        record { first = take size text; others = []; sum = sym a.0; are = (cs, z.parts, z.is, all_blank cs a.1) }
    by false false t u f = absurd cc (f)

by_size : (more : List (List ℕ) → List ℕ → Option (List (List ℕ))) (close : ℕ) (before all : List (List ℕ)) (text : List ℕ) (o : Option ℕ) → HasNoMargin text → stop_in 44 text ≡ o
    → (o >>= λ size. cond (size == 0) None (elements_after (more (before ++ take size text ∷ [])) close (before ++ take size text ∷ []) (drop size text))) ≡ Some all
    → Further more close all → Elements close before all text
by_size more close before all text None h s e further = absurd cc (e)
by_size more close before all text (Some size) h s e further = by (size == 0) refl e
  where
    by : (b : Bool) → (size == 0) ≡ b → cond b None (elements_after (more (before ++ take size text ∷ [])) close (before ++ take size text ∷ []) (drop size text)) ≡ Some all → Elements close before all text
    by true t f = absurd cc (f)
    by false t f = by_behind more close before all text size (drop size text) h s t refl f further

from_told : (n close : ℕ) (before all : List (List ℕ)) (text : List ℕ) → HasNoMargin text → elements_from n close before text ≡ Some all → Elements close before all text
unfolding elements_from
from_told zero close before all text h e = absurd cc (e)
from_told (suc n) close before all text h e =
    by_size (elements_from n close) close before all text (stop_in 44 text) h refl e (λ b rest g f. from_told n close b all rest g f)

within_told : (close : ℕ) (all : List (List ℕ)) (inner : List ℕ) → HasNoMargin inner → elements_within close inner ≡ Some all → AreElements close all inner
unfolding elements_within
within_told close all [] h e = absurd cc (e)
within_told close all (c ∷ cs) h e = by (c == close) refl e
  where
    by : (b : Bool) → (c == close) ≡ b → cond b (alone [] (after_blanks cs)) (elements_from (length (c ∷ cs)) close [] (c ∷ cs)) ≡ Some all → AreElements close all (c ∷ cs)
    by true t f =
        let a = alone_is [] all (after_blanks cs) f in
        subst (λ (es : List (List ℕ)). AreElements close es (c ∷ cs)) a.0 (cs, ap (λ (x : ℕ). x ∷ cs) (eqb-true c close t), all_blank cs a.1)
    by false t f =
        let x = from_told (length (c ∷ cs)) close [] all (c ∷ cs) h f in
        subst (λ (es : List (List ℕ)). AreElements close es (c ∷ cs)) (sym x.sum) x.are

-- the elements that are read of a text in brackets stand there
bracketed_told : (opening close : ℕ) (all : List (List ℕ)) (text : List ℕ) → bracketed_elements opening close text ≡ Some all → AreBracketed opening close all text
unfolding bracketed_elements
bracketed_told opening close all [] e = absurd cc (e)
bracketed_told opening close all (c ∷ cs) e = by (c == opening) refl e
  where
    by : (b : Bool) → (c == opening) ≡ b → cond b (elements_within close (after_blanks cs)) None ≡ Some all → AreBracketed opening close all (c ∷ cs)
    by true t f =
        let m = margin cs in
        record {
          blanks = m.blanks;
          inner = after_blanks cs;
          parts = ap (λ (x : ℕ). x ∷ cs) (eqb-true c opening t) ∙ ap (λ (t : List ℕ). opening ∷ t) m.parts;
          are_blanks = m.are_blanks;
          are_elements = within_told close all (after_blanks cs) (no_margin cs) f;
        }
    by false t f = absurd cc (f)

-- ---- elements that stand in the text are read

-- a closing bracket is neither a comma nor a blank
record IsClose (close : ℕ) : Type 0 where
  pub closing : is_closing close ≡ true
  pub comma : (close == 44) ≡ false
  pub no_blank : is_blank close ≡ false

or_true : (b : Bool) → (b || true) ≡ true
or_true true = refl
or_true false = refl

close_ends : (close : ℕ) → IsClose close → is_stop 44 inside.Nothing [] close ≡ true
close_ends close k =
    let either = or_true (close == 44) in
    let closing = k.closing in
    rw (closing, either) refl

filled : (e : List ℕ) → e ≢ [] → (length e == 0) ≡ false
filled [] some = absurd (some refl)
filled (c ∷ cs) some = differ (length (c ∷ cs)) 0 (λ e. omega (arith, e))

-- a comma, or a closing bracket
abbrev Ends : ℕ → Type 0
Ends mark = is_stop 44 inside.Nothing [] mark ≡ true

element_read : (more : List (List ℕ) → List ℕ → Option (List (List ℕ))) (close : ℕ) (before : List (List ℕ)) (e : List ℕ) (mark : ℕ) (cs : List ℕ) → IsElement e → Ends mark
    → element_by more close before (e ++ (mark ∷ cs)) ≡ elements_after (more (before ++ e ∷ [])) close (before ++ e ∷ []) (mark ∷ cs)
element_read more close before e mark cs is ends =
    let stop : stop_in 44 (e ++ (mark ∷ cs)) ≡ Some (length e) = balanced_read 44 e mark cs refl ends is.balanced in
    let some : (length e == 0) ≡ false = filled e is.some in
    rw (stop, some, take_at e (mark ∷ cs) (length e) refl, drop_at e (mark ∷ cs) (length e) refl) refl

close_read : (more : List ℕ → Option (List (List ℕ))) (close : ℕ) (all : List (List ℕ)) (blanks : List ℕ) → IsClose close → AreBlanks blanks → elements_after more close all (close ∷ blanks) ≡ Some all
close_read more close all blanks is are =
    let comma : (close == 44) ≡ false = is.comma in
    let same : (close == close) ≡ true = grind arith in
    let none : after_blanks blanks ≡ [] = blanks_all blanks are in
    rw (comma, same, none) refl

element_margin : (e : List ℕ) (mark : ℕ) (more : List ℕ) → IsElement e → HasNoMargin (e ++ (mark ∷ more))
element_margin [] mark more is = absurd (is.some refl)
element_margin (c ∷ cs) mark more is = is.begins

elements_margin : (close : ℕ) (e : List ℕ) (es : List (List ℕ)) (text : List ℕ) → AreElements close (e ∷ es) text → HasNoMargin text
elements_margin close e [] text (blanks, parts, is, are) = subst HasNoMargin (sym parts) (element_margin e close blanks is)
elements_margin close e (f ∷ es) text (blanks, rest, parts, is, are, others) = subst HasNoMargin (sym parts) (element_margin e 44 (blanks ++ rest) is)

from_read : (n close : ℕ) (before : List (List ℕ)) (e : List ℕ) (es : List (List ℕ)) (text : List ℕ) → IsClose close → length text ≤ n → AreElements close (e ∷ es) text
    → elements_from n close before text ≡ Some (before ++ (e ∷ es))
unfolding elements_from
from_read zero close before e [] text k few (blanks, parts, is, are) = absurd (omega (arith, few, ap length parts, length-append e (close ∷ blanks)))
from_read zero close before e (f ∷ es) text k few (blanks, rest, parts, is, are, others) = absurd (omega (arith, few, ap length parts, length-append e (44 ∷ (blanks ++ rest))))
from_read (suc n) close before e [] text k few (blanks, parts, is, are) =
    ap (element_by (elements_from n close) close before) parts
    ∙ element_read (elements_from n close) close before e close blanks is (close_ends close k)
    ∙ close_read (elements_from n close (before ++ e ∷ [])) close (before ++ e ∷ []) blanks k are
from_read (suc n) close before e (f ∷ es) text k few (blanks, rest, parts, is, are, others) =
    let fewer : length rest ≤ n = omega (arith, few, ap length parts, length-append e (44 ∷ (blanks ++ rest)), length-append blanks rest) in
    ap (element_by (elements_from n close) close before) parts
    ∙ element_read (elements_from n close) close before e 44 (blanks ++ rest) is refl
    ∙ ap (elements_from n close (before ++ e ∷ [])) (after_margin blanks rest are (elements_margin close f es rest others))
    ∙ from_read n close (before ++ e ∷ []) f es rest k fewer others
    ∙ ap (λ (ts : List (List ℕ)). Some ts) (append_assoc before (e ∷ []) (f ∷ es))

-- no element begins with a closing bracket
opens_none : (c : ℕ) (more : List ℕ) (n : ℕ) → stop_in 44 (c ∷ more) ≡ Some (suc n) → is_closing c ≡ false
unfolding stop_from
opens_none c more n e = by (is_closing c) refl
  where
    by : (b : Bool) → is_closing c ≡ b → is_closing c ≡ false
    by true t =
        let either = or_true (c == 44) in
        let stop : stop_in 44 (c ∷ more) ≡ Some 0 = rw (t, either) refl in
        let both : Some 0 ≡ Some (suc n) = sym stop ∙ e in
        absurd cc (both)
    by false t = t

within_is : (close c : ℕ) (cs : List ℕ) → (c == close) ≡ false → elements_within close (c ∷ cs) ≡ elements_from (length (c ∷ cs)) close [] (c ∷ cs)
unfolding elements_within
within_is close c cs e = rw e refl

within_some : (close : ℕ) (e : List ℕ) (mark : ℕ) (more : List ℕ) → IsClose close → IsElement e
    → elements_within close (e ++ (mark ∷ more)) ≡ elements_from (length (e ++ (mark ∷ more))) close [] (e ++ (mark ∷ more))
within_some close [] mark more k is = absurd (is.some refl)
within_some close (c ∷ cs) mark more k is =
    let no : is_closing c ≡ false = opens_none c (cs ++ (44 ∷ [])) (length cs) (balanced_read 44 (c ∷ cs) 44 [] refl refl is.balanced) in
    within_is close c (cs ++ (mark ∷ more)) (differ c close (λ same. let both : false ≡ true = sym no ∙ ap is_closing same ∙ k.closing in absurd cc (both)))

none_read : (close : ℕ) (blanks : List ℕ) → AreBlanks blanks → elements_within close (close ∷ blanks) ≡ Some []
unfolding elements_within
none_read close blanks are =
    let same : (close == close) ≡ true = grind arith in
    let none : after_blanks blanks ≡ [] = blanks_all blanks are in
    rw (same, none) refl

within_read : (close : ℕ) (all : List (List ℕ)) (inner : List ℕ) → IsClose close → AreElements close all inner → elements_within close inner ≡ Some all
within_read close [] inner k (blanks, parts, are) = ap (elements_within close) parts ∙ none_read close blanks are
within_read close (e ∷ []) inner k (blanks, parts, is, are) =
    ap (elements_within close) parts ∙ within_some close e close blanks k is ∙ ap (λ (t : List ℕ). elements_from (length t) close [] t) (sym parts)
    ∙ from_read (length inner) close [] e [] inner k (omega arith) (blanks, parts, is, are)
within_read close (e ∷ f ∷ es) inner k (blanks, rest, parts, is, are, others) =
    ap (elements_within close) parts ∙ within_some close e 44 (blanks ++ rest) k is ∙ ap (λ (t : List ℕ). elements_from (length t) close [] t) (sym parts)
    ∙ from_read (length inner) close [] e (f ∷ es) inner k (omega arith) (blanks, rest, parts, is, are, others)

inner_margin : (close : ℕ) (all : List (List ℕ)) (inner : List ℕ) → IsClose close → AreElements close all inner → HasNoMargin inner
inner_margin close [] inner k (blanks, parts, are) = subst HasNoMargin (sym parts) k.no_blank
inner_margin close (e ∷ es) inner k are = elements_margin close e es inner are

opened : (opening close : ℕ) (cs : List ℕ) → bracketed_elements opening close (opening ∷ cs) ≡ elements_within close (after_blanks cs)
unfolding bracketed_elements
opened opening close cs = let same : (opening == opening) ≡ true = grind arith in rw same refl

-- the elements of a text in brackets are read
bracketed_read : (opening close : ℕ) (all : List (List ℕ)) (text : List ℕ) → IsClose close → AreBracketed opening close all text → bracketed_elements opening close text ≡ Some all
bracketed_read opening close all text k are =
    ap (bracketed_elements opening close) are.parts
    ∙ opened opening close (are.blanks ++ are.inner)
    ∙ ap (elements_within close) (after_margin are.blanks are.inner are.are_blanks (inner_margin close all are.inner k are.are_elements))
    ∙ within_read close all are.inner k are.are_elements

-- ---- braces and square brackets

brace : IsClose 125
brace = record { closing = refl; comma = refl; no_blank = refl }

square : IsClose 93
square = record { closing = refl; comma = refl; no_blank = refl }

pub tuple_told : (all : List (List ℕ)) (text : List ℕ) → tuple_parts text ≡ Some all → AreBracketed 123 125 all text
tuple_told = bracketed_told 123 125

pub tuple_read : (all : List (List ℕ)) (text : List ℕ) → AreBracketed 123 125 all text → tuple_parts text ≡ Some all
tuple_read all text are = bracketed_read 123 125 all text brace are

pub list_told : (all : List (List ℕ)) (text : List ℕ) → list_parts text ≡ Some all → AreBracketed 91 93 all text
list_told = bracketed_told 91 93

pub list_read : (all : List (List ℕ)) (text : List ℕ) → AreBracketed 91 93 all text → list_parts text ≡ Some all
list_read all text are = bracketed_read 91 93 all text square are
