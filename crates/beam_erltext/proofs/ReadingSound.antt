-- The text spells the term that is read from it.
use Rattle.std.proofs.Common.{◌≡◌, ℕ, zero, suc, ◌^◌, true, false, cond, ◌⊎◌, inl, inr, List, [], ◌∷◌, ◌++◌, length, Result, Ok, Err, refl, sym, ap, subst, nat_lt, nat_le, ◌==◌, ◌||◌, eqb-true}
use Rattle.std.specs.Str.{chars}
use Rattle.beam_lemmas.proofs.Tests.{chosen}
use Rattle.beam_lemmas.proofs.Steps.{bind_ok}
use Rattle.beam_model.specs.Prelude.{is_digit, Reading, fault_at, with_front, after_blanks, integer_at, atom_at, string_at, list_of_characters, string_within, closed_by, tail_by, pairs_by, items_after, items_by, tuple_by, list_by, term_by, term_at, pairs_at, whole, read_text, at_line, term_of_text, Front, Mark, Then, IsString, Barred, IsText, IsTail, AreItems, AreFurther, IsTextOf}
use Rattle.beam_term.specs.Prelude.{TermValue, int_term, atom_term, reference_term, pid_term, nil_term, pair_term, tuple_term, terms_of, tuple_of}
use Rattle.beam_model.specs.TextReading.{◌>>=◌}

abbrev done : {A : Type 0} → A → Result A ℕ
done x = Ok x

ok_is : {A : Type 0} (x y : A) → done x ≡ done y → x ≡ y
ok_is x y e = cc

abbrev pub got : TermValue → List ℕ → Reading TermValue
got t rest = Ok (t, rest)

abbrev pub lost : List ℕ → Reading TermValue
lost text = fault_at text

no_fault : {A : Type 0} (n : ℕ) (y : A) → Err n ≡ done y → ⊥
no_fault n y e = cc

pub not_lost : {P : Type 0} (text : List ℕ) (t : TermValue) (rest : List ℕ) → lost text ≡ got t rest → P
not_lost text t rest e = absurd cc

got_is : (P : TermValue → List ℕ → Type 0) (u : TermValue) (a : List ℕ) (t : TermValue) (rest : List ℕ) → got u a ≡ got t rest → P u a → P t rest
got_is P u a t rest e p =
    let made : TermValue × List ℕ = (u, a) in
    subst (λ (y : TermValue × List ℕ). P y.0 y.1) (ok_is made (t, rest) e) p

marked : (c mark : ℕ) (cs : List ℕ) → (c == mark) ≡ true → Mark mark (c ∷ cs) (after_blanks cs)
marked c mark cs e = (cs, ap (λ (d : ℕ). d ∷ cs) (eqb-true c mark e), refl)

-- ---- from the pieces to the term

-- the elements of a list and its end
abbrev IsPairs : TermValue → Front
IsPairs (pair_term head tail) text rest = Then (IsText head) (IsTail tail) text rest
IsPairs t text rest = ⊥

-- the elements of a tuple and its end
abbrev IsTuple : TermValue → Front
IsTuple (tuple_term items) text rest = AreItems items text rest
IsTuple t text rest = ⊥

from_pairs : (t : TermValue) (text inner rest : List ℕ) → Mark 91 text inner → IsPairs t inner rest → IsText t text rest
from_pairs (int_term z) text inner rest m p = absurd p
from_pairs (atom_term name) text inner rest m p = absurd p
from_pairs (reference_term node creation words) text inner rest m p = absurd p
from_pairs (pid_term node id serial creation) text inner rest m p = absurd p
from_pairs nil_term text inner rest m p = absurd p
from_pairs (pair_term h t) text inner rest m p = inl (inner, m, p)
from_pairs (tuple_term items) text inner rest m p = absurd p

further_pairs : (t : TermValue) (text inner rest : List ℕ) → Mark 44 text inner → IsPairs t inner rest → IsTail t text rest
further_pairs (int_term z) text inner rest m p = absurd p
further_pairs (atom_term name) text inner rest m p = absurd p
further_pairs (reference_term node creation words) text inner rest m p = absurd p
further_pairs (pid_term node id serial creation) text inner rest m p = absurd p
further_pairs nil_term text inner rest m p = absurd p
further_pairs (pair_term h t) text inner rest m p = inl (inner, m, p)
further_pairs (tuple_term items) text inner rest m p = absurd p

from_tuple : (t : TermValue) (text inner rest : List ℕ) → Mark 123 text inner → IsTuple t inner rest → IsText t text rest
from_tuple (int_term z) text inner rest m p = absurd p
from_tuple (atom_term name) text inner rest m p = absurd p
from_tuple (reference_term node creation words) text inner rest m p = absurd p
from_tuple (pid_term node id serial creation) text inner rest m p = absurd p
from_tuple nil_term text inner rest m p = absurd p
from_tuple (pair_term h t) text inner rest m p = absurd p
from_tuple (tuple_term items) text inner rest m p = (inner, m, p)

barred_tail : (t : TermValue) (text rest : List ℕ) → Barred (IsText t) text rest → IsTail t text rest
barred_tail (int_term z) text rest p = p
barred_tail (atom_term name) text rest p = p
barred_tail (reference_term node creation words) text rest p = absurd p.2.1
barred_tail (pid_term node id serial creation) text rest p = absurd p.2.1
barred_tail nil_term text rest p = inr p
barred_tail (pair_term h t) text rest p = inr p
barred_tail (tuple_term items) text rest p = p

from_string : (cs : List ℕ) (text rest : List ℕ) → IsString (list_of_characters cs) text rest → IsText (list_of_characters cs) text rest
from_string [] text rest p = inr p
from_string (c ∷ cs) text rest p = inr p

-- ---- from a term that is read to the pieces

-- a reader whose texts spell the terms that it reads
abbrev Reads : (List ℕ → Reading TermValue) → (TermValue → Front) → Type 0
Reads read IsTextOf = (text : List ℕ) (t : TermValue) (rest : List ℕ) → read text ≡ got t rest → IsTextOf t text rest

closed_spelled : (mark : ℕ) (x : TermValue) (text : List ℕ) (t : TermValue) (rest : List ℕ) → closed_by mark x text ≡ got t rest → (x ≡ t) × Mark mark text rest
closed_spelled mark x [] t rest e = not_lost [] t rest e
closed_spelled mark x (c ∷ cs) t rest e = by (chosen (c == mark) (got x (after_blanks cs)) (lost (c ∷ cs)) (got t rest) e)
  where
    by : (((c == mark) ≡ true) × (got x (after_blanks cs) ≡ got t rest)) ⊎ (((c == mark) ≡ false) × (lost (c ∷ cs) ≡ got t rest)) → (x ≡ t) × Mark mark (c ∷ cs) rest
    by (inl p) = got_is (λ u b. (x ≡ u) × Mark mark (c ∷ cs) b) x (after_blanks cs) t rest p.1 (refl, marked c mark cs p.0)
    by (inr p) = not_lost (c ∷ cs) t rest p.1

tail_spelled : (term pairs : List ℕ → Reading TermValue) → Reads term IsText → Reads pairs IsPairs → Reads (tail_by term pairs) IsTail
tail_spelled term pairs reads_term reads_pairs [] t rest e = not_lost [] t rest e
tail_spelled term pairs reads_term reads_pairs (c ∷ cs) t rest e = end (chosen (c == 93) (got nil_term (after_blanks cs)) further (got t rest) e)
  where
    barred : Reading TermValue
    barred = term (after_blanks cs) >>= λ tail. closed_by 93 tail.0 tail.1

    last : Reading TermValue
    last = cond (c == 124) barred (lost (c ∷ cs))

    further : Reading TermValue
    further = cond (c == 44) (pairs (after_blanks cs)) last

    bar : ((c == 124) ≡ true) × (barred ≡ got t rest) ⊎ ((c == 124) ≡ false) × (lost (c ∷ cs) ≡ got t rest) → IsTail t (c ∷ cs) rest
    bar (inl p) =
        let a = bind_ok (term (after_blanks cs)) (λ tail. closed_by 93 tail.0 tail.1) (t, rest) p.1 in
        let close = closed_spelled 93 a.0.0 a.0.1 t rest a.2 in
        let read : IsText a.0.0 (after_blanks cs) a.0.1 = reads_term (after_blanks cs) a.0.0 a.0.1 a.1 in
        let same : IsText t (after_blanks cs) a.0.1 = subst (λ (u : TermValue). IsText u (after_blanks cs) a.0.1) close.0 read in
        barred_tail t (c ∷ cs) rest (after_blanks cs, marked c 124 cs p.0, (a.0.1, same, close.1))
    bar (inr p) = not_lost (c ∷ cs) t rest p.1

    comma : ((c == 44) ≡ true) × (pairs (after_blanks cs) ≡ got t rest) ⊎ ((c == 44) ≡ false) × (last ≡ got t rest) → IsTail t (c ∷ cs) rest
    comma (inl p) = further_pairs t (c ∷ cs) (after_blanks cs) rest (marked c 44 cs p.0) (reads_pairs (after_blanks cs) t rest p.1)
    comma (inr p) = bar (chosen (c == 124) barred (lost (c ∷ cs)) (got t rest) p.1)

    end : ((c == 93) ≡ true) × (got nil_term (after_blanks cs) ≡ got t rest) ⊎ ((c == 93) ≡ false) × (further ≡ got t rest) → IsTail t (c ∷ cs) rest
    end (inl p) = got_is (λ u b. IsTail u (c ∷ cs) b) nil_term (after_blanks cs) t rest p.1 (inl (marked c 93 cs p.0))
    end (inr p) = comma (chosen (c == 44) (pairs (after_blanks cs)) last (got t rest) p.1)

pairs_spelled : (term pairs : List ℕ → Reading TermValue) → Reads term IsText → Reads pairs IsPairs → Reads (pairs_by term pairs) IsPairs
pairs_spelled term pairs reads_term reads_pairs text t rest e =
    let a = bind_ok (term text) (λ head. tail_by term pairs head.1 >>= λ tail. Ok (pair_term head.0 tail.0, tail.1)) (t, rest) e in
    let b = bind_ok (tail_by term pairs a.0.1) (λ tail. Ok (pair_term a.0.0 tail.0, tail.1)) (t, rest) a.2 in
    let head : IsText a.0.0 text a.0.1 = reads_term text a.0.0 a.0.1 a.1 in
    let tail : IsTail b.0.0 a.0.1 b.0.1 = tail_spelled term pairs reads_term reads_pairs a.0.1 b.0.0 b.0.1 b.1 in
    let made : TermValue × List ℕ = (pair_term a.0.0 b.0.0, b.0.1) in
    got_is (λ u r. IsPairs u text r) made.0 made.1 t rest b.2 (a.0.1, head, tail)

-- ---- tuples

abbrev got_items : List TermValue → List ℕ → Reading (List TermValue)
got_items xs rest = Ok (xs, rest)

abbrev lost_items : List ℕ → Reading (List TermValue)
lost_items text = fault_at text

not_lost_items : {P : Type 0} (text : List ℕ) (xs : List TermValue) (rest : List ℕ) → lost_items text ≡ got_items xs rest → P
not_lost_items text xs rest e = absurd cc

got_items_is : (P : List TermValue → List ℕ → Type 0) (ys : List TermValue) (a : List ℕ) (xs : List TermValue) (rest : List ℕ) → got_items ys a ≡ got_items xs rest → P ys a → P xs rest
got_items_is P ys a xs rest e p =
    let made : List TermValue × List ℕ = (ys, a) in
    subst (λ (y : List TermValue × List ℕ). P y.0 y.1) (ok_is made (xs, rest) e) p

-- an element at least, and the tuple's end
abbrev IsFilled : List TermValue → Front
IsFilled [] text rest = ⊥
IsFilled (x ∷ xs) text rest = Then (IsText x) (AreFurther (terms_of xs)) text rest

further_items : (xs : List TermValue) (text inner rest : List ℕ) → Mark 44 text inner → IsFilled xs inner rest → AreFurther (terms_of xs) text rest
further_items [] text inner rest m p = absurd p
further_items (x ∷ xs) text inner rest m p = (inner, m, p)

filled_items : (xs : List TermValue) (text rest : List ℕ) → IsFilled xs text rest → AreItems (terms_of xs) text rest
filled_items [] text rest p = absurd p
filled_items (x ∷ xs) text rest p = p

after_spelled : (items : List ℕ → Reading (List TermValue)) → ((text : List ℕ) (xs : List TermValue) (rest : List ℕ) → items text ≡ got_items xs rest → IsFilled xs text rest)
    → (text : List ℕ) (xs : List TermValue) (rest : List ℕ) → items_after items text ≡ got_items xs rest → AreFurther (terms_of xs) text rest
after_spelled items reads [] xs rest e = not_lost_items [] xs rest e
after_spelled items reads (c ∷ cs) xs rest e = end (chosen (c == 125) (got_items [] (after_blanks cs)) further (got_items xs rest) e)
  where
    further : Reading (List TermValue)
    further = cond (c == 44) (items (after_blanks cs)) (lost_items (c ∷ cs))

    comma : ((c == 44) ≡ true) × (items (after_blanks cs) ≡ got_items xs rest) ⊎ ((c == 44) ≡ false) × (lost_items (c ∷ cs) ≡ got_items xs rest) → AreFurther (terms_of xs) (c ∷ cs) rest
    comma (inl p) = further_items xs (c ∷ cs) (after_blanks cs) rest (marked c 44 cs p.0) (reads (after_blanks cs) xs rest p.1)
    comma (inr p) = not_lost_items (c ∷ cs) xs rest p.1

    end : ((c == 125) ≡ true) × (got_items [] (after_blanks cs) ≡ got_items xs rest) ⊎ ((c == 125) ≡ false) × (further ≡ got_items xs rest) → AreFurther (terms_of xs) (c ∷ cs) rest
    end (inl p) = got_items_is (λ ys b. AreFurther (terms_of ys) (c ∷ cs) b) [] (after_blanks cs) xs rest p.1 (marked c 125 cs p.0)
    end (inr p) = comma (chosen (c == 44) (items (after_blanks cs)) (lost_items (c ∷ cs)) (got_items xs rest) p.1)

items_spelled : (term : List ℕ → Reading TermValue) → Reads term IsText → (n : ℕ) (text : List ℕ) (xs : List TermValue) (rest : List ℕ) → items_by term n text ≡ got_items xs rest → IsFilled xs text rest
unfolding items_by
items_spelled term reads zero text xs rest e = not_lost_items text xs rest e
items_spelled term reads (suc n) text xs rest e =
    let a = bind_ok (term text) (λ item. with_front (item.0 ∷ []) (items_after (items_by term n) item.1)) (xs, rest) e in
    let b = bind_ok (items_after (items_by term n) a.0.1) (λ x. Ok ((a.0.0 ∷ []) ++ x.0, x.1)) (xs, rest) a.2 in
    let item : IsText a.0.0 text a.0.1 = reads text a.0.0 a.0.1 a.1 in
    let further : AreFurther (terms_of b.0.0) a.0.1 b.0.1 = after_spelled (items_by term n) (items_spelled term reads n) a.0.1 b.0.0 b.0.1 b.1 in
    got_items_is (λ ys b. IsFilled ys text b) (a.0.0 ∷ b.0.0) b.0.1 xs rest b.2 (a.0.1, item, further)

tuple_spelled : (term : List ℕ → Reading TermValue) → Reads term IsText → Reads (tuple_by term) IsTuple
tuple_spelled term reads [] t rest e = not_lost [] t rest e
tuple_spelled term reads (c ∷ cs) t rest e = end (chosen (c == 125) (got (tuple_of []) (after_blanks cs)) filled (got t rest) e)
  where
    short : List TermValue × List ℕ → Reading TermValue
    short items = cond (nat_lt (length items.0) (2 ^ 32)) (got (tuple_of items.0) items.1) (lost (c ∷ cs))

    filled : Reading TermValue
    filled = items_by term (length (c ∷ cs)) (c ∷ cs) >>= short

    fits : (xs : List TermValue) (b : List ℕ) → IsFilled xs (c ∷ cs) b → (nat_lt (length xs) (2 ^ 32) ≡ true) × (got (tuple_of xs) b ≡ got t rest) ⊎ (nat_lt (length xs) (2 ^ 32) ≡ false) × (lost (c ∷ cs) ≡ got t rest) → IsTuple t (c ∷ cs) rest
    fits xs b read (inl p) = got_is (λ u r. IsTuple u (c ∷ cs) r) (tuple_of xs) b t rest p.1 (filled_items xs (c ∷ cs) b read)
    fits xs b read (inr p) = not_lost (c ∷ cs) t rest p.1

    end : ((c == 125) ≡ true) × (got (tuple_of []) (after_blanks cs) ≡ got t rest) ⊎ ((c == 125) ≡ false) × (filled ≡ got t rest) → IsTuple t (c ∷ cs) rest
    end (inl p) = got_is (λ u b. IsTuple u (c ∷ cs) b) (tuple_of []) (after_blanks cs) t rest p.1 (marked c 125 cs p.0)
    end (inr p) =
        let a = bind_ok (items_by term (length (c ∷ cs)) (c ∷ cs)) short (t, rest) p.1 in
        fits a.0.0 a.0.1 (items_spelled term reads (length (c ∷ cs)) (c ∷ cs) a.0.0 a.0.1 a.1)
        (chosen (nat_lt (length a.0.0) (2 ^ 32)) (got (tuple_of a.0.0) a.0.1) (lost (c ∷ cs)) (got t rest) a.2)

-- ---- terms

list_spelled : (pairs : List ℕ → Reading TermValue) → Reads pairs IsPairs → (text inner : List ℕ) (t : TermValue) (rest : List ℕ) → Mark 91 text inner → list_by pairs inner ≡ got t rest → IsText t text rest
list_spelled pairs reads text [] t rest m e = not_lost [] t rest e
list_spelled pairs reads text (c ∷ cs) t rest m e = by (chosen (c == 93) (got nil_term (after_blanks cs)) (pairs (c ∷ cs)) (got t rest) e)
  where
    by : ((c == 93) ≡ true) × (got nil_term (after_blanks cs) ≡ got t rest) ⊎ ((c == 93) ≡ false) × (pairs (c ∷ cs) ≡ got t rest) → IsText t text rest
    by (inl p) = got_is (λ u b. IsText u text b) nil_term (after_blanks cs) t rest p.1 (inl (c ∷ cs, m, marked c 93 cs p.0))
    by (inr p) = from_pairs t text (c ∷ cs) rest m (reads (c ∷ cs) t rest p.1)

string_spelled : (depth : ℕ) (quoted : List ℕ) (t : TermValue) (rest : List ℕ) → string_within depth (34 ∷ quoted) ≡ got t rest → IsText t (34 ∷ quoted) rest
string_spelled depth quoted t rest e =
    let a = bind_ok (string_at (34 ∷ quoted)) (λ s. cond (nat_le (length (chars s.0)) depth) (got (list_of_characters (chars s.0)) s.1) (lost (34 ∷ quoted))) (t, rest) e in
    by a.0.0 a.0.1 a.1 (chosen (nat_le (length (chars a.0.0)) depth) (got (list_of_characters (chars a.0.0)) a.0.1) (lost (34 ∷ quoted)) (got t rest) a.2)
  where
    by : (s b : List ℕ) → string_at (34 ∷ quoted) ≡ Ok (s, b)
        → (nat_le (length (chars s)) depth ≡ true) × (got (list_of_characters (chars s)) b ≡ got t rest) ⊎ (nat_le (length (chars s)) depth ≡ false) × (lost (34 ∷ quoted) ≡ got t rest) → IsText t (34 ∷ quoted) rest
    by s b read (inl p) = got_is (λ u r. IsText u (34 ∷ quoted) r) (list_of_characters (chars s)) b t rest p.1 (from_string (chars s) (34 ∷ quoted) b (quoted, s, refl, read, refl))
    by s b read (inr p) = not_lost (34 ∷ quoted) t rest p.1

term_spelled : (depth : ℕ) (pairs tuple : List ℕ → Reading TermValue) → Reads pairs IsPairs → Reads tuple IsTuple → Reads (term_by depth pairs tuple) IsText
term_spelled depth pairs tuple reads_pairs reads_tuple [] t rest e = not_lost [] t rest e
term_spelled depth pairs tuple reads_pairs reads_tuple (c ∷ cs) t rest e = bracket (chosen (c == 91) (list_by pairs (after_blanks cs)) others (got t rest) e)
  where
    named : Reading TermValue
    named = atom_at (c ∷ cs) >>= λ name. got (atom_term name.0) name.1

    numbered : Reading TermValue
    numbered = integer_at (c ∷ cs) >>= λ n. got (int_term n.0) n.1

    plain : Reading TermValue
    plain = cond (c == 45 || is_digit c) numbered named

    quoted : Reading TermValue
    quoted = cond (c == 34) (string_within depth (c ∷ cs)) plain

    others : Reading TermValue
    others = cond (c == 123) (tuple (after_blanks cs)) quoted

    digit : ((c == 45 || is_digit c) ≡ true) × (numbered ≡ got t rest) ⊎ ((c == 45 || is_digit c) ≡ false) × (named ≡ got t rest) → IsText t (c ∷ cs) rest
    digit (inl p) =
        let a = bind_ok (integer_at (c ∷ cs)) (λ n. got (int_term n.0) n.1) (t, rest) p.1 in
        got_is (λ u b. IsText u (c ∷ cs) b) (int_term a.0.0) a.0.1 t rest a.2 a.1
    digit (inr p) =
        let a = bind_ok (atom_at (c ∷ cs)) (λ name. got (atom_term name.0) name.1) (t, rest) p.1 in
        got_is (λ u b. IsText u (c ∷ cs) b) (atom_term a.0.0) a.0.1 t rest a.2 a.1

    quote : ((c == 34) ≡ true) × (string_within depth (c ∷ cs) ≡ got t rest) ⊎ ((c == 34) ≡ false) × (plain ≡ got t rest) → IsText t (c ∷ cs) rest
    quote (inl p) =
        let same : c ∷ cs ≡ 34 ∷ cs = ap (λ (d : ℕ). d ∷ cs) (eqb-true c 34 p.0) in
        subst (λ (text : List ℕ). IsText t text rest) (sym same) (string_spelled depth cs t rest (subst (λ (text : List ℕ). string_within depth text ≡ got t rest) same p.1))
    quote (inr p) = digit (chosen (c == 45 || is_digit c) numbered named (got t rest) p.1)

    brace : ((c == 123) ≡ true) × (tuple (after_blanks cs) ≡ got t rest) ⊎ ((c == 123) ≡ false) × (quoted ≡ got t rest) → IsText t (c ∷ cs) rest
    brace (inl p) = from_tuple t (c ∷ cs) (after_blanks cs) rest (marked c 123 cs p.0) (reads_tuple (after_blanks cs) t rest p.1)
    brace (inr p) = quote (chosen (c == 34) (string_within depth (c ∷ cs)) plain (got t rest) p.1)

    bracket : ((c == 91) ≡ true) × (list_by pairs (after_blanks cs) ≡ got t rest) ⊎ ((c == 91) ≡ false) × (others ≡ got t rest) → IsText t (c ∷ cs) rest
    bracket (inl p) = list_spelled pairs reads_pairs (c ∷ cs) (after_blanks cs) t rest (marked c 91 cs p.0) p.1
    bracket (inr p) = brace (chosen (c == 123) (tuple (after_blanks cs)) quoted (got t rest) p.1)

spelled_at : (d : ℕ) → Reads (term_at d) IsText × Reads (pairs_at d) IsPairs
unfolding term_at pairs_at
spelled_at zero = (term_spelled 0 fault_at fault_at (λ text t rest e. not_lost text t rest e) (λ text t rest e. not_lost text t rest e), λ text t rest e. not_lost text t rest e)
spelled_at (suc d) =
    let below = spelled_at d in
    let pairs : Reads (pairs_by (term_at d) (pairs_at d)) IsPairs = pairs_spelled (term_at d) (pairs_at d) below.0 below.1 in
    (term_spelled (suc d) (pairs_by (term_at d) (pairs_at d)) (tuple_by (term_at d)) pairs (tuple_spelled (term_at d) below.0), pairs)

line_kept : (text : List ℕ) (r : Result TermValue ℕ) (t : TermValue) → at_line text r ≡ Ok t → r ≡ Ok t
line_kept text (Ok u) t e = e
line_kept text (Err n) t e = absurd cc

whole_is : (u : TermValue) (text : List ℕ) (t : TermValue) → whole u text ≡ Ok t → (u ≡ t) × (text ≡ [])
whole_is u [] t e = (ok_is u t e, refl)
whole_is u (c ∷ cs) t e = absurd cc

pub text_spelled : (text : List ℕ) (t : TermValue) → term_of_text text ≡ Ok t → IsTextOf text t
unfolding read_text
text_spelled text t e =
    let a = bind_ok (term_at 4096 (after_blanks text)) (λ u. whole u.0 u.1) t (line_kept text (read_text text) t e) in
    let ends = whole_is a.0.0 a.0.1 t a.2 in
    let read : IsText a.0.0 (after_blanks text) a.0.1 = (spelled_at 4096).0 (after_blanks text) a.0.0 a.0.1 a.1 in
    subst (λ (u : TermValue). IsText u (after_blanks text) []) ends.0 (subst (λ (b : List ℕ). IsText a.0.0 (after_blanks text) b) ends.1 read)
