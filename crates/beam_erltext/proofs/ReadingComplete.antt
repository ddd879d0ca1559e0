-- A spelled term is read.
use Rattle.std.proofs.Common.{◌≡◌, ℕ, zero, suc, ◌^◌, ◌<◌, ◌≤◌, Bool, true, false, cond, ◌⊎◌, inl, inr, ℤ, pos, List, [], ◌∷◌, length, take, drop, Ok, refl, sym, ap, subst, ◌∙◌, arith, nat_le, nat_lt, ◌==◌, neg_ℤ, eqb-true}
use Rattle.std.specs.Str.{chars}
use Rattle.std.proofs.lemmas.Bool.Decides.{nat_tests}
use Rattle.std.proofs.lemmas.Bool.{and_parts}
use Rattle.beam_lemmas.proofs.Tests.{chosen}
use Rattle.beam_lemmas.proofs.Steps.{bind_ok}
use Rattle.beam_model.specs.Prelude.{is_digit, is_name, is_unquoted, Reading, fault_at, after_blanks, digits_after, digits_at, integer_at, quoted_at, name_len, checked_atom, unquoted_atom_at, atom_at, string_at, list_of_characters, string_within, closed_by, tail_by, pairs_by, items_after, items_by, tuple_by, list_by, term_by, term_at, pairs_at, tuple_at, whole, read_text, at_line, term_of_text, Mark, Then, IsString, Barred, IsText, IsTail, AreFurther, IsTextOf}
use Rattle.beam_term.specs.Prelude.{terms_of-elements_of, TermValue, Terms, int_term, atom_term, reference_term, pid_term, nil_term, pair_term, tuple_term, no_terms, more_terms, elements_of, tuple_of, count_of, depth_of, items_depth, IsInRange, AreInRange, IsTerm}
use Rattle.beam_model.specs.TextReading.{◌>>=◌}
use Rattle.beam_erltext.proofs.Texts.{differ}
use Rattle.beam_erltext.proofs.Rooms.{term_at_is}
use Rattle.beam_erltext.proofs.IntegerRoundTrip.{le_true, lt_true}
use Rattle.beam_erltext.proofs.AtomRoundTrip.{bare_is}
use Rattle.beam_erltext.proofs.TermRoundTrip.{IsIntegerByte, IsAtomByte, reads_integer, reads_atom, pairs_again, item_again, count_is}
use Rattle.beam_erltext.proofs.ReadingSound.{got, not_lost}
use Rattle.beam_erltext.proofs.Within.{blanks_within, left_of_term}

-- ---- first bytes

abbrev negative : List ℕ → Reading ℤ
negative cs = digits_at cs >>= λ n. Ok (neg_ℤ (pos n.0), after_blanks n.1)

abbrev got_integer : ℤ → List ℕ → Reading ℤ
got_integer z rest = Ok (z, rest)

abbrev got_number : ℕ × List ℕ → Reading ℕ
got_number n = Ok n

abbrev lost_number : List ℕ → Reading ℕ
lost_number text = fault_at text

abbrev got_name : List ℕ → List ℕ → Reading (List ℕ)
got_name name rest = Ok (name, rest)

abbrev lost_name : List ℕ → Reading (List ℕ)
lost_name text = fault_at text

abbrev quoted_name : ℕ → List ℕ → Reading (List ℕ)
quoted_name c cs = quoted_at 39 cs >>= λ n. checked_atom (c ∷ cs) n.0 n.1

digit_byte : (c : ℕ) → is_digit c ≡ true → IsIntegerByte c
digit_byte c e =
    let both = and_parts (nat_le 48 c) (nat_le c 57) e in
    inr (grind (arith, nat_tests, both.0), grind (arith, nat_tests, both.1))

integer_byte : (c : ℕ) (cs : List ℕ) (z : ℤ) (rest : List ℕ) → integer_at (c ∷ cs) ≡ Ok (z, rest) → IsIntegerByte c
unfolding integer_at digits_at
integer_byte c cs z rest e = by (chosen (c == 45) (negative cs) (digits_at (c ∷ cs) >>= positive) (got_integer z rest) e)
  where
    positive : ℕ × List ℕ → Reading ℤ
    positive n = cond (nat_lt n.0 (2 ^ 59)) (Ok (pos n.0, after_blanks n.1)) (fault_at (c ∷ cs))

    digit : (n : ℕ × List ℕ) → ((is_digit c ≡ true) × (digits_after 0 (c ∷ cs) ≡ got_number n)) ⊎ ((is_digit c ≡ false) × (lost_number (c ∷ cs) ≡ got_number n)) → IsIntegerByte c
    digit n (inl p) = digit_byte c p.0
    digit n (inr p) = absurd cc

    by : (((c == 45) ≡ true) × (negative cs ≡ got_integer z rest)) ⊎ (((c == 45) ≡ false) × ((digits_at (c ∷ cs) >>= positive) ≡ got_integer z rest)) → IsIntegerByte c
    by (inl p) = inl (eqb-true c 45 p.0)
    by (inr p) =
        let a = bind_ok (digits_at (c ∷ cs)) positive (z, rest) p.1 in
        digit a.0 (chosen (is_digit c) (digits_after 0 (c ∷ cs)) (lost_number (c ∷ cs)) (got_number a.0) a.1)

bare_byte : (c : ℕ) (cs : List ℕ) → is_unquoted (take (name_len (c ∷ cs)) (c ∷ cs)) ≡ true → IsAtomByte c
bare_byte c cs e = by (is_name c) e
  where
    by : (b : Bool) → is_unquoted (take (cond b (suc (name_len cs)) 0) (c ∷ cs)) ≡ true → IsAtomByte c
    by true e = inr ((bare_is c (take (name_len cs) cs) e).low, (bare_is c (take (name_len cs) cs) e).high)
    by false e = absurd cc

atom_byte : (c : ℕ) (cs name rest : List ℕ) → atom_at (c ∷ cs) ≡ Ok (name, rest) → IsAtomByte c
unfolding atom_at
atom_byte c cs name rest e = by (chosen (c == 39) (quoted_name c cs) (unquoted_atom_at (c ∷ cs)) (got_name name rest) e)
  where
    front : List ℕ
    front = take (name_len (c ∷ cs)) (c ∷ cs)

    bare : ((is_unquoted front ≡ true) × (checked_atom (c ∷ cs) front (drop (name_len (c ∷ cs)) (c ∷ cs)) ≡ got_name name rest)) ⊎ ((is_unquoted front ≡ false) × (lost_name (c ∷ cs) ≡ got_name name rest)) → IsAtomByte c
    bare (inl p) = bare_byte c cs p.0
    bare (inr p) = absurd cc

    by : (((c == 39) ≡ true) × ((quoted_name c cs) ≡ got_name name rest)) ⊎ (((c == 39) ≡ false) × (unquoted_atom_at (c ∷ cs) ≡ got_name name rest)) → IsAtomByte c
    by (inl p) = inl (eqb-true c 39 p.0)
    by (inr p) = bare (chosen (is_unquoted front) (checked_atom (c ∷ cs) front (drop (name_len (c ∷ cs)) (c ∷ cs))) (lost_name (c ∷ cs)) (got_name name rest) p.1)

-- ---- integers, atoms, strings

integer_found : (z : ℤ) (d : ℕ) (text rest : List ℕ) → integer_at text ≡ Ok (z, rest) → term_at d text ≡ got (int_term z) rest
unfolding integer_at
integer_found z d [] rest e = absurd cc
integer_found z d (c ∷ cs) rest e =
    term_at_is d (c ∷ cs) ∙ reads_integer d (pairs_at d) (tuple_at d) c cs (integer_byte c cs z rest e) ∙ ap (λ (r : Reading ℤ). r >>= λ n. Ok (int_term n.0, n.1)) e

atom_found : (name : List ℕ) (d : ℕ) (text rest : List ℕ) → atom_at text ≡ Ok (name, rest) → term_at d text ≡ got (atom_term name) rest
unfolding atom_at
atom_found name d [] rest e = absurd cc
atom_found name d (c ∷ cs) rest e =
    term_at_is d (c ∷ cs) ∙ reads_atom d (pairs_at d) (tuple_at d) c cs (atom_byte c cs name rest e) ∙ ap (λ (r : Reading (List ℕ)). r >>= λ n. Ok (atom_term n.0, n.1)) e

characters_deep : (cs : List ℕ) → length cs ≤ depth_of (list_of_characters cs)
characters_deep [] = omega arith
characters_deep (c ∷ cs) = omega (arith, characters_deep cs)

string_found : (t : TermValue) (d : ℕ) (text rest : List ℕ) → depth_of t ≤ d → IsString t text rest → term_at d text ≡ got t rest
string_found t d text rest s p =
    let quoted = p.0 in
    let bytes = p.1 in
    let read : string_at (34 ∷ quoted) ≡ Ok (bytes, rest) = sym (ap string_at p.2) ∙ p.3 in
    let deep : length (chars bytes) ≤ d = omega (arith, characters_deep (chars bytes), ap depth_of p.4) in
    let found : string_within d (34 ∷ quoted) ≡ got (list_of_characters (chars bytes)) rest = rw (read, le_true (length (chars bytes)) d deep) refl in
    ap (term_at d) p.2 ∙ term_at_is d (34 ∷ quoted) ∙ found ∙ ap (λ (u : TermValue). got u rest) (sym p.4)

nil_found : (d : ℕ) (text rest : List ℕ) → Then (Mark 91) (Mark 93) text rest → term_at d text ≡ got nil_term rest
nil_found d text rest p =
    let opens = p.1 in
    let ends = p.2 in
    ap (term_at d) opens.1 ∙ term_at_is d (91 ∷ opens.0) ∙ ap (list_by (pairs_at d)) (sym opens.2 ∙ ends.1) ∙ ap (λ (r : List ℕ). got nil_term r) (sym ends.2)

-- ---- brackets

-- no term begins with a closing bracket, and none is empty
no_term : (d mark : ℕ) (cs : List ℕ) (t : TermValue) (rest : List ℕ) → (mark ≡ 93) ⊎ (mark ≡ 125) → term_at d (mark ∷ cs) ≡ got t rest → ⊥
no_term d mark cs t rest k e = outside mark k (byte mark k (sym (term_at_is d (mark ∷ cs)) ∙ e))
  where
    outside : (c : ℕ) → (c ≡ 93) ⊎ (c ≡ 125) → IsAtomByte c → ⊥
    outside c (inl h) (inl b) = omega (arith, h, b)
    outside c (inl h) (inr b) = omega (arith, h, b.0)
    outside c (inr h) (inl b) = omega (arith, h, b)
    outside c (inr h) (inr b) = omega (arith, h, b.1)

    byte : (c : ℕ) → (c ≡ 93) ⊎ (c ≡ 125) → term_by d (pairs_at d) (tuple_at d) (c ∷ cs) ≡ got t rest → IsAtomByte c
    byte c (inl h) f =
        let g : term_by d (pairs_at d) (tuple_at d) (93 ∷ cs) ≡ got t rest = subst (λ (b : ℕ). term_by d (pairs_at d) (tuple_at d) (b ∷ cs) ≡ got t rest) h f in
        let a = bind_ok (atom_at (93 ∷ cs)) (λ name. got (atom_term name.0) name.1) (t, rest) g in
        rw h (atom_byte 93 cs a.0.0 a.0.1 a.1)
    byte c (inr h) f =
        let g : term_by d (pairs_at d) (tuple_at d) (125 ∷ cs) ≡ got t rest = subst (λ (b : ℕ). term_by d (pairs_at d) (tuple_at d) (b ∷ cs) ≡ got t rest) h f in
        let a = bind_ok (atom_at (125 ∷ cs)) (λ name. got (atom_term name.0) name.1) (t, rest) g in
        rw h (atom_byte 125 cs a.0.0 a.0.1 a.1)

no_empty : {P : Type 0} (d : ℕ) (t : TermValue) (rest : List ℕ) → term_at d [] ≡ got t rest → P
no_empty d t rest e = not_lost [] t rest (sym (term_at_is d []) ∙ e)

list_opens : (pairs : List ℕ → Reading TermValue) (d : ℕ) (text : List ℕ) (t : TermValue) (rest : List ℕ) → term_at d text ≡ got t rest → list_by pairs text ≡ pairs text
list_opens pairs d [] t rest e = no_empty d t rest e
list_opens pairs d (c ∷ cs) t rest e = rw (differ c 93 (λ h. no_term d c cs t rest (inl h) e)) refl

-- a term, a tail, and the elements of a tuple after the first, at some depth
abbrev Finds : ℕ → TermValue → Type 0
Finds d t = (text rest : List ℕ) → IsText t text rest → term_at d text ≡ got t rest

abbrev FindsTail : ℕ → TermValue → Type 0
FindsTail d t = (text rest : List ℕ) → IsTail t text rest → tail_by (term_at d) (pairs_at d) text ≡ got t rest

abbrev got_list : List TermValue → List ℕ → Reading (List TermValue)
got_list xs rest = Ok (xs, rest)

abbrev FindsFurther : ℕ → Terms → Type 0
FindsFurther d xs = (n : ℕ) (text rest : List ℕ) → length text ≤ suc n → AreFurther xs text rest → items_after (items_by (term_at d) n) text ≡ got_list (elements_of xs) rest

pairs_found : (h t : TermValue) (d : ℕ) → Finds d h → FindsTail d t → (text rest : List ℕ) → Then (IsText h) (IsTail t) text rest → pairs_by (term_at d) (pairs_at d) text ≡ got (pair_term h t) rest
pairs_found h t d head tail text rest p = pairs_again h t d text p.0 rest (head text p.0 p.1) (tail p.0 rest p.2)

list_found : (h t : TermValue) (d : ℕ) → Finds d h → FindsTail d t → (text rest : List ℕ) → Then (Mark 91) (Then (IsText h) (IsTail t)) text rest → term_at (suc d) text ≡ got (pair_term h t) rest
unfolding term_at
list_found h t d head tail text rest p =
    let inner = p.0 in
    let opens = p.1 in
    let parts = p.2 in
    ap (term_at (suc d)) opens.1 ∙ ap (list_by (pairs_by (term_at d) (pairs_at d))) (sym opens.2)
    ∙ list_opens (pairs_by (term_at d) (pairs_at d)) d inner h parts.0 (head inner parts.0 parts.1) ∙ pairs_found h t d head tail inner rest parts

pair_found : (h t : TermValue) (d : ℕ) → depth_of (pair_term h t) ≤ suc d → Finds d h → FindsTail d t → Finds (suc d) (pair_term h t)
pair_found h t d s head tail text rest (inl p) = list_found h t d head tail text rest p
pair_found h t d s head tail text rest (inr p) = string_found (pair_term h t) (suc d) text rest s p

nil_or_string : (d : ℕ) (text rest : List ℕ) → IsText nil_term text rest → term_at d text ≡ got nil_term rest
nil_or_string d text rest (inl p) = nil_found d text rest p
nil_or_string d text rest (inr p) = string_found nil_term d text rest (omega arith) p

end_found : (d : ℕ) (text rest : List ℕ) → Mark 93 text rest → tail_by (term_at d) (pairs_at d) text ≡ got nil_term rest
end_found d text rest p = ap (tail_by (term_at d) (pairs_at d)) p.1 ∙ ap (λ (r : List ℕ). got nil_term r) (sym p.2)

closed_found : (t : TermValue) (text rest : List ℕ) → Mark 93 text rest → closed_by 93 t text ≡ got t rest
closed_found t text rest p = ap (closed_by 93 t) p.1 ∙ ap (λ (r : List ℕ). got t r) (sym p.2)

barred_found : (t : TermValue) (d : ℕ) → Finds d t → (text rest : List ℕ) → Barred (IsText t) text rest → tail_by (term_at d) (pairs_at d) text ≡ got t rest
barred_found t d finds text rest p =
    let opens = p.1 in
    let parts = p.2 in
    let read : term_at d (after_blanks opens.0) ≡ got t parts.0 = sym (ap (term_at d) opens.2) ∙ finds p.0 parts.0 parts.1 in
    ap (tail_by (term_at d) (pairs_at d)) opens.1 ∙ ap (λ (r : Reading TermValue). r >>= λ u. closed_by 93 u.0 u.1) read ∙ closed_found t parts.0 rest parts.2

further_pairs_found : (h t : TermValue) (d : ℕ) → Finds d h → FindsTail d t → (text rest : List ℕ) → Then (Mark 44) (Then (IsText h) (IsTail t)) text rest → tail_by (term_at (suc d)) (pairs_at (suc d)) text ≡ got (pair_term h t) rest
unfolding pairs_at
further_pairs_found h t d head tail text rest p =
    let opens = p.1 in
    ap (tail_by (term_at (suc d)) (pairs_at (suc d))) opens.1 ∙ ap (pairs_at (suc d)) (sym opens.2) ∙ pairs_found h t d head tail p.0 rest p.2

-- ---- tuples

item_found : (x : TermValue) (xs : Terms) (d n : ℕ) → Finds d x → FindsFurther d xs → (text rest : List ℕ) → length text ≤ suc n → Then (IsText x) (AreFurther xs) text rest
    → items_by (term_at d) (suc n) text ≡ got_list (x ∷ elements_of xs) rest
item_found x xs d n first others text rest h p =
    let read = first text p.0 p.1 in
    item_again x (elements_of xs) d n text p.0 rest read (others n p.0 rest (omega (arith, left_of_term d text x p.0 read)) p.2)

enough : (d : ℕ) (text : List ℕ) (t : TermValue) (rest : List ℕ) → term_at d text ≡ got t rest → 0 < length text
enough d [] t rest e = no_empty d t rest e
enough d (c ∷ cs) t rest e = omega arith

further_found : (x : TermValue) (xs : Terms) (d : ℕ) → Finds d x → FindsFurther d xs → FindsFurther d (more_terms x xs)
further_found x xs d first others zero text rest h p =
    let opens = p.1 in
    let parts = p.2 in
    absurd (omega (arith, enough d p.0 x parts.0 (first p.0 parts.0 parts.1), ap length opens.1, ap length opens.2, blanks_within opens.0))
further_found x xs d first others (suc n) text rest h p =
    let opens = p.1 in
    let fits : length p.0 ≤ suc n = omega (arith, ap length opens.1, ap length opens.2, blanks_within opens.0) in
    ap (items_after (items_by (term_at d) (suc n))) opens.1 ∙ ap (items_by (term_at d) (suc n)) (sym opens.2) ∙ item_found x xs d n first others p.0 rest fits p.2

ends_found : (d n : ℕ) (text rest : List ℕ) → Mark 125 text rest → items_after (items_by (term_at d) n) text ≡ got_list [] rest
ends_found d n text rest p = ap (items_after (items_by (term_at d) n)) p.1 ∙ ap (λ (r : List ℕ). got_list [] r) (sym p.2)

empty_found : (d : ℕ) → Finds (suc d) (tuple_term no_terms)
unfolding term_at
empty_found d text rest p =
    let opens = p.1 in
    let ends = p.2 in
    ap (term_at (suc d)) opens.1 ∙ ap (tuple_by (term_at d)) (sym opens.2 ∙ ends.1) ∙ ap (λ (r : List ℕ). got (tuple_term no_terms) r) (sym ends.2)

items_found : (x : TermValue) (xs : Terms) (d : ℕ) → suc (count_of xs) < 2 ^ 32 → Finds d x → FindsFurther d xs → (text rest : List ℕ) → Then (IsText x) (AreFurther xs) text rest
    → tuple_by (term_at d) text ≡ got (tuple_term (more_terms x xs)) rest
items_found x xs d short first others [] rest p = no_empty d x p.0 (first [] p.0 p.1)
items_found x xs d short first others (c ∷ cs) rest p =
    let read : items_by (term_at d) (suc (length cs)) (c ∷ cs) ≡ got_list (x ∷ elements_of xs) rest = item_found x xs d (length cs) first others (c ∷ cs) rest (omega arith) p in
    let few : length (x ∷ elements_of xs) < 2 ^ 32 = omega (arith, count_is xs) in
    let made : tuple_by (term_at d) (c ∷ cs) ≡ got (tuple_of (x ∷ elements_of xs)) rest = rw (differ c 125 (λ h. no_term d c cs x p.0 (inr h) (first (c ∷ cs) p.0 p.1)), read, lt_true (length (x ∷ elements_of xs)) (2 ^ 32) few) refl in
    made ∙ ap (λ (ts : Terms). got (tuple_term (more_terms x ts)) rest) (terms_of-elements_of xs)

tuple_found : (x : TermValue) (xs : Terms) (d : ℕ) → suc (count_of xs) < 2 ^ 32 → Finds d x → FindsFurther d xs → Finds (suc d) (tuple_term (more_terms x xs))
unfolding term_at
tuple_found x xs d short first others text rest p =
    let opens = p.1 in
    ap (term_at (suc d)) opens.1 ∙ ap (tuple_by (term_at d)) (sym opens.2) ∙ items_found x xs d short first others p.0 rest p.2

-- ---- terms

mutual
  term_found : (t : TermValue) (d : ℕ) → IsInRange t → depth_of t ≤ d → Finds d t
  term_found (int_term z) d r s text rest p = integer_found z d text rest p
  term_found (atom_term name) d r s text rest p = atom_found name d text rest p
  term_found (reference_term node creation words) d r s text rest p = absurd p
  term_found (pid_term node id serial creation) d r s text rest p = absurd p
  term_found nil_term d r s text rest p = nil_or_string d text rest p
  term_found (pair_term h t) zero r s text rest p = absurd (omega arith)
  term_found (pair_term h t) (suc d) r s text rest p = pair_found h t d s (term_found h d r.0 (omega arith)) (tail_found t d r.1 (omega arith)) text rest p
  term_found (tuple_term items) zero r s text rest p = absurd (omega arith)
  term_found (tuple_term no_terms) (suc d) r s text rest p = empty_found d text rest p
  term_found (tuple_term (more_terms x xs)) (suc d) r s text rest p = tuple_found x xs d r.0 (term_found x d r.1.0 (omega arith)) (all_found xs d r.1.1 (omega arith)) text rest p

  tail_found : (t : TermValue) (d : ℕ) → IsInRange t → depth_of t ≤ d → FindsTail d t
  tail_found (int_term z) d r s text rest p = barred_found (int_term z) d (λ a b q. integer_found z d a b q) text rest p
  tail_found (atom_term name) d r s text rest p = barred_found (atom_term name) d (λ a b q. atom_found name d a b q) text rest p
  tail_found (reference_term node creation words) d r s text rest p = absurd p
  tail_found (pid_term node id serial creation) d r s text rest p = absurd p
  tail_found nil_term d r s text rest (inl p) = end_found d text rest p
  tail_found nil_term d r s text rest (inr p) = barred_found nil_term d (nil_or_string d) text rest p
  tail_found (pair_term h t) zero r s text rest p = absurd (omega arith)
  tail_found (pair_term h t) (suc d) r s text rest (inl p) = further_pairs_found h t d (term_found h d r.0 (omega arith)) (tail_found t d r.1 (omega arith)) text rest p
  tail_found (pair_term h t) (suc d) r s text rest (inr p) =
      barred_found (pair_term h t) (suc d) (pair_found h t d s (term_found h d r.0 (omega arith)) (tail_found t d r.1 (omega arith))) text rest p
  tail_found (tuple_term items) zero r s text rest p = absurd (omega arith)
  tail_found (tuple_term no_terms) (suc d) r s text rest p = barred_found (tuple_term no_terms) (suc d) (empty_found d) text rest p
  tail_found (tuple_term (more_terms x xs)) (suc d) r s text rest p =
      barred_found (tuple_term (more_terms x xs)) (suc d) (tuple_found x xs d r.0 (term_found x d r.1.0 (omega arith)) (all_found xs d r.1.1 (omega arith))) text rest p

  all_found : (xs : Terms) (d : ℕ) → AreInRange xs → items_depth xs ≤ d → FindsFurther d xs
  all_found no_terms d r s n text rest h p = ends_found d n text rest p
  all_found (more_terms x xs) d r s n text rest h p = further_found x xs d (term_found x d r.0 (omega arith)) (all_found xs d r.1 (omega arith)) n text rest h p

pub text_found : (text : List ℕ) (t : TermValue) → IsTerm t → IsTextOf text t → term_of_text text ≡ Ok t
unfolding read_text
text_found text t lawful p =
    ap (λ (r : Reading TermValue). at_line text (r >>= λ u. whole u.0 u.1)) (term_found t 4096 lawful.in_range lawful.shallow (after_blanks text) [] p)

pub one_value : (text : List ℕ) (t u : TermValue) → IsTerm t → IsTerm u → IsTextOf text t → IsTextOf text u → t ≡ u
one_value text t u lawful lawful' p q =
    let first : term_of_text text ≡ Ok t = text_found text t lawful p in
    let second : term_of_text text ≡ Ok u = text_found text u lawful' q in
    cc
