-- A term that is printed is read again.
use Rattle.std.proofs.Common.{◌≡◌, ℕ, zero, suc, ◌^◌, ◌<◌, ◌≤◌, Bool, true, false, cond, ◌⊎◌, inl, inr, ℤ, pos, negsuc, List, [], ◌∷◌, ◌++◌, length, Ok, refl, sym, ap, ◌∙◌, append_assoc, arith, ◌||◌, ◌==◌, length-append, append-nil}
use Rattle.std.specs.List.{flat_map}
use Rattle.std.specs.Fmt.{signed_decimal, decimal}
use Rattle.std.proofs.lemmas.Bool.Decides.{nat_tests}
use Rattle.std.proofs.lemmas.Int.{ints}
use Rattle.beam_model.specs.Prelude.{is_digit, is_unquoted, escaped, atom_text, text_of, tail_text, items_text, HasText, AllHaveText, Reading, with_front, is_blank, after_blanks, integer_at, atom_at, tail_by, pairs_by, items_after, items_by, tuple_by, list_by, term_by, term_at, pairs_at, tuple_at, whole, read_text, at_line, term_of_text}
use Rattle.beam_term.specs.Prelude.{IsAtomText, terms_of-elements_of, TermValue, Terms, int_term, atom_term, reference_term, pid_term, nil_term, pair_term, tuple_term, no_terms, more_terms, elements_of, tuple_of, count_of, depth_of, items_depth, IsSmall, IsInRange, AreInRange, IsTerm}
use Rattle.beam_model.specs.TextReading.{◌>>=◌}
use Rattle.beam_erltext.proofs.Texts.{differ}
use Rattle.beam_erltext.proofs.Rooms.{term_at_is}
use Rattle.beam_erltext.proofs.IntegerRoundTrip.{IsApart, digit_is, decimal_begins, integer_again, lt_true}
use Rattle.beam_erltext.proofs.AtomRoundTrip.{bare_is, atom_again}

-- ---- how a text begins

-- with no blank, and no closing bracket
pub record Begins (text : List ℕ) : Type 0 where
  pub first : ℕ
  pub others : List ℕ
  pub parts : text ≡ first ∷ others
  pub high : 33 ≤ first
  pub square : first ≡ 93 → ⊥
  pub brace : first ≡ 125 → ⊥

not_blank : (c : ℕ) → 33 ≤ c → is_blank c ≡ false
not_blank c h = grind (arith, nat_tests)

pub blanks_end : (c : ℕ) (cs : List ℕ) → 33 ≤ c → after_blanks (c ∷ cs) ≡ c ∷ cs
unfolding after_blanks
blanks_end c cs h = rw (not_blank c h) refl

pub no_blanks : (text rest : List ℕ) → Begins text → after_blanks (text ++ rest) ≡ text ++ rest
no_blanks text rest b =
    let parts : text ++ rest ≡ b.first ∷ (b.others ++ rest) = ap (λ (t : List ℕ). t ++ rest) b.parts in
    ap after_blanks parts ∙ blanks_end b.first (b.others ++ rest) b.high ∙ sym parts

abbrev pub IsIntegerByte : ℕ → Type 0
IsIntegerByte c = (c ≡ 45) ⊎ ((48 ≤ c) × (c ≤ 57))

abbrev pub IsAtomByte : ℕ → Type 0
IsAtomByte c = (c ≡ 39) ⊎ ((97 ≤ c) × (c ≤ 122))

-- the first byte of an integer or an atom
pub record BeginsWith (Kind : ℕ → Type 0) (text : List ℕ) : Type 0 where
  pub first : ℕ
  pub others : List ℕ
  pub parts : text ≡ first ∷ others
  pub kind : Kind first

pub integer_begins : (z : ℤ) → IsSmall z → BeginsWith IsIntegerByte (signed_decimal z)
integer_begins (pos n) small =
    let lt : n < 2 ^ 59 = omega (arith, ints) in
    let b = decimal_begins n (omega arith) in
    record { first = b.first; others = b.others; parts = b.parts; kind = inr (b.low, b.high) }
integer_begins (negsuc n) small = record { first = 45; others = decimal (suc n); parts = refl; kind = inl refl }

pub atom_begins : (name : List ℕ) → BeginsWith IsAtomByte (atom_text name)
atom_begins name = by name (is_unquoted name) refl
  where
    by : (name : List ℕ) (bare : Bool) → is_unquoted name ≡ bare → BeginsWith IsAtomByte (cond bare name ((39 ∷ []) ++ flat_map escaped name ++ (39 ∷ [])))
    by [] true e = absurd cc
    by (c ∷ cs) true e = record { first = c; others = cs; parts = refl; kind = inr ((bare_is c cs e).low, (bare_is c cs e).high) }
    by name false e = record { first = 39; others = flat_map escaped name ++ (39 ∷ []); parts = refl; kind = inl refl }

pub from_integer : (text : List ℕ) → BeginsWith IsIntegerByte text → Begins text
from_integer text b = record { first = b.first; others = b.others; parts = b.parts; high = high b.first b.kind; square = square b.first b.kind; brace = brace b.first b.kind }
  where
    high : (c : ℕ) → IsIntegerByte c → 33 ≤ c
    high c (inl e) = omega (arith, e)
    high c (inr k) = omega (arith, k.0)

    square : (c : ℕ) → IsIntegerByte c → c ≡ 93 → ⊥
    square c (inl e) f = omega (arith, e, f)
    square c (inr k) f = omega (arith, k.1, f)

    brace : (c : ℕ) → IsIntegerByte c → c ≡ 125 → ⊥
    brace c (inl e) f = omega (arith, e, f)
    brace c (inr k) f = omega (arith, k.1, f)

pub from_atom : (text : List ℕ) → BeginsWith IsAtomByte text → Begins text
from_atom text b = record { first = b.first; others = b.others; parts = b.parts; high = high b.first b.kind; square = square b.first b.kind; brace = brace b.first b.kind }
  where
    high : (c : ℕ) → IsAtomByte c → 33 ≤ c
    high c (inl e) = omega (arith, e)
    high c (inr k) = omega (arith, k.0)

    square : (c : ℕ) → IsAtomByte c → c ≡ 93 → ⊥
    square c (inl e) f = omega (arith, e, f)
    square c (inr k) f = omega (arith, k.0, f)

    brace : (c : ℕ) → IsAtomByte c → c ≡ 125 → ⊥
    brace c (inl e) f = omega (arith, e, f)
    brace c (inr k) f = omega (arith, k.1, f)

pub text_begins : (t : TermValue) → IsInRange t → HasText t → Begins (text_of t)
text_begins (int_term z) r p = from_integer (signed_decimal z) (integer_begins z r)
text_begins (atom_term name) r p = from_atom (atom_text name) (atom_begins name)
text_begins (reference_term node creation words) r p = absurd p
text_begins (pid_term node id serial creation) r p = absurd p
text_begins nil_term r p = record { first = 91; others = 93 ∷ []; parts = refl; high = omega arith; square = λ e. omega (arith, e); brace = λ e. omega (arith, e) }
text_begins (pair_term head tail) r p = record { first = 91; others = text_of head ++ tail_text tail ++ 93 ∷ []; parts = refl; high = omega arith; square = λ e. omega (arith, e); brace = λ e. omega (arith, e) }
text_begins (tuple_term items) r p = record { first = 123; others = items_text [] items ++ 125 ∷ []; parts = refl; high = omega arith; square = λ e. omega (arith, e); brace = λ e. omega (arith, e) }

-- ---- integers and atoms

pub reads_integer : (depth : ℕ) (pairs tuple : List ℕ → Reading TermValue) (c : ℕ) (cs : List ℕ) → IsIntegerByte c → term_by depth pairs tuple (c ∷ cs) ≡ (integer_at (c ∷ cs) >>= λ n. Ok (int_term n.0, n.1))
reads_integer depth pairs tuple c cs (inl e) = rw e refl
reads_integer depth pairs tuple c cs (inr k) =
    let low : 48 ≤ c = k.0 in
    let high : c ≤ 57 = k.1 in
    rw (differ c 91 (λ e. omega (arith, e)), differ c 123 (λ e. omega (arith, e)), differ c 34 (λ e. omega (arith, e)), differ c 45 (λ e. omega (arith, e)), digit_is c low high) refl

pub reads_atom : (depth : ℕ) (pairs tuple : List ℕ → Reading TermValue) (c : ℕ) (cs : List ℕ) → IsAtomByte c → term_by depth pairs tuple (c ∷ cs) ≡ (atom_at (c ∷ cs) >>= λ name. Ok (atom_term name.0, name.1))
reads_atom depth pairs tuple c cs (inl e) = rw e refl
reads_atom depth pairs tuple c cs (inr k) =
    let low : 97 ≤ c = k.0 in
    let high : c ≤ 122 = k.1 in
    rw (differ c 91 (λ e. omega (arith, e)), differ c 123 (λ e. omega (arith, e)), differ c 34 (λ e. omega (arith, e)), other c low) refl
  where
    other : (c : ℕ) → 97 ≤ c → (c == 45 || is_digit c) ≡ false
    other c h = grind (arith, nat_tests)

integer_term_again : (z : ℤ) (depth : ℕ) (rest : List ℕ) → IsSmall z → IsApart rest → term_at depth (signed_decimal z ++ rest) ≡ Ok (int_term z, after_blanks rest)
integer_term_again z depth rest small apart =
    let b = integer_begins z small in
    let parts : signed_decimal z ++ rest ≡ b.first ∷ (b.others ++ rest) = ap (λ (t : List ℕ). t ++ rest) b.parts in
    let read : integer_at (b.first ∷ (b.others ++ rest)) ≡ Ok (z, after_blanks rest) = sym (ap integer_at parts) ∙ integer_again z rest small apart in
    ap (term_at depth) parts ∙ term_at_is depth (b.first ∷ (b.others ++ rest)) ∙ reads_integer depth (pairs_at depth) (tuple_at depth) b.first (b.others ++ rest) b.kind
    ∙ ap (λ (r : Reading ℤ). r >>= λ n. Ok (int_term n.0, n.1)) read

atom_term_again : (name : List ℕ) (depth : ℕ) (rest : List ℕ) → IsAtomText name → IsApart rest → term_at depth (atom_text name ++ rest) ≡ Ok (atom_term name, after_blanks rest)
atom_term_again name depth rest lawful apart =
    let b = atom_begins name in
    let parts : atom_text name ++ rest ≡ b.first ∷ (b.others ++ rest) = ap (λ (t : List ℕ). t ++ rest) b.parts in
    let read : atom_at (b.first ∷ (b.others ++ rest)) ≡ Ok (name, after_blanks rest) = sym (ap atom_at parts) ∙ atom_again name rest lawful apart in
    ap (term_at depth) parts ∙ term_at_is depth (b.first ∷ (b.others ++ rest)) ∙ reads_atom depth (pairs_at depth) (tuple_at depth) b.first (b.others ++ rest) b.kind
    ∙ ap (λ (r : Reading (List ℕ)). r >>= λ n. Ok (atom_term n.0, n.1)) read

-- ---- brackets

-- after an element of a list stands a mark
record IsMarked (text : List ℕ) : Type 0 where
  apart : IsApart text
  plain : after_blanks text ≡ text

marked : (c : ℕ) (cs : List ℕ) → 33 ≤ c → IsApart (c ∷ cs) → IsMarked (c ∷ cs)
marked c cs h apart = record { apart = apart; plain = blanks_end c cs h }

tail_marked : (t : TermValue) (rest : List ℕ) → IsMarked (tail_text t ++ 93 ∷ rest)
tail_marked (int_term z) rest = marked 124 (signed_decimal z ++ 93 ∷ rest) (omega arith) refl
tail_marked (atom_term name) rest = marked 124 (atom_text name ++ 93 ∷ rest) (omega arith) refl
tail_marked (reference_term node creation words) rest = marked 124 _ (omega arith) refl
tail_marked (pid_term node id serial creation) rest = marked 124 _ (omega arith) refl
tail_marked nil_term rest = marked 93 rest (omega arith) refl
tail_marked (pair_term head tail) rest = marked 44 ((text_of head ++ tail_text tail) ++ 93 ∷ rest) (omega arith) refl
tail_marked (tuple_term items) rest = marked 124 ((123 ∷ [] ++ items_text [] items ++ 125 ∷ []) ++ 93 ∷ rest) (omega arith) refl

items_marked : (xs : Terms) (rest : List ℕ) → IsMarked (items_text (44 ∷ []) xs ++ 125 ∷ rest)
items_marked no_terms rest = marked 125 rest (omega arith) refl
items_marked (more_terms x xs) rest = marked 44 ((text_of x ++ items_text (44 ∷ []) xs) ++ 125 ∷ rest) (omega arith) refl

-- an element of a list that is read, and what stands after it
pub pairs_again : (head tail : TermValue) (d : ℕ) (text behind rest : List ℕ) → term_at d text ≡ Ok (head, behind) → tail_by (term_at d) (pairs_at d) behind ≡ Ok (tail, rest)
    → pairs_by (term_at d) (pairs_at d) text ≡ Ok (pair_term head tail, rest)
pairs_again head tail d text behind rest first others = rw (first, others) refl

-- a tail after its bar
improper_again : (tail : TermValue) (d : ℕ) (text rest : List ℕ) → after_blanks text ≡ text → term_at d text ≡ Ok (tail, 93 ∷ rest)
    → tail_by (term_at d) (pairs_at d) (124 ∷ text) ≡ Ok (tail, after_blanks rest)
improper_again tail d text rest plain read = rw (plain, read) refl

-- further elements after their comma
further_again : (t : TermValue) (d : ℕ) (text rest : List ℕ) → after_blanks text ≡ text → pairs_by (term_at d) (pairs_at d) text ≡ Ok (t, rest)
    → tail_by (term_at (suc d)) (pairs_at (suc d)) (44 ∷ text) ≡ Ok (t, rest)
unfolding pairs_at
further_again t d text rest plain read = ap (pairs_at (suc d)) plain ∙ read

-- a list after its bracket
list_again : (t : TermValue) (d : ℕ) (text behind rest : List ℕ) → Begins text → pairs_by (term_at d) (pairs_at d) (text ++ behind) ≡ Ok (t, rest)
    → term_at (suc d) (91 ∷ (text ++ behind)) ≡ Ok (t, rest)
unfolding term_at
list_again t d text behind rest b read =
    let parts : text ++ behind ≡ b.first ∷ (b.others ++ behind) = ap (λ (s : List ℕ). s ++ behind) b.parts in
    ap (list_by (pairs_by (term_at d) (pairs_at d))) (no_blanks text behind b ∙ parts)
    ∙ ap (λ (c : Bool). cond c (Ok (nil_term, after_blanks (b.others ++ behind))) (pairs_by (term_at d) (pairs_at d) (b.first ∷ (b.others ++ behind)))) (differ b.first 93 b.square)
    ∙ sym (ap (pairs_by (term_at d) (pairs_at d)) parts) ∙ read

nil_again : (depth : ℕ) (rest : List ℕ) → term_at depth (91 ∷ 93 ∷ rest) ≡ Ok (nil_term, after_blanks rest)
nil_again depth rest = term_at_is depth (91 ∷ 93 ∷ rest) ∙ ap (list_by (pairs_at depth)) (blanks_end 93 rest (omega arith))

pub item_again : (x : TermValue) (xs : List TermValue) (d n : ℕ) (text behind rest : List ℕ) → term_at d text ≡ Ok (x, behind) → items_after (items_by (term_at d) n) behind ≡ Ok (xs, rest)
    → items_by (term_at d) (suc n) text ≡ Ok (x ∷ xs, rest)
unfolding items_by
item_again x xs d n text behind rest first others =
    ap (λ (r : Reading TermValue). r >>= λ item. with_front (item.0 ∷ []) (items_after (items_by (term_at d) n) item.1)) first ∙ ap (with_front (x ∷ [])) others

-- a tuple after its brace
tuple_again : (items : List TermValue) (d : ℕ) (text behind rest : List ℕ) → Begins text → length items < 2 ^ 32 → items_by (term_at d) (length (text ++ behind)) (text ++ behind) ≡ Ok (items, rest)
    → term_at (suc d) (123 ∷ (text ++ behind)) ≡ Ok (tuple_of items, rest)
unfolding term_at
tuple_again items d text behind rest b short read =
    let parts : text ++ behind ≡ b.first ∷ (b.others ++ behind) = ap (λ (s : List ℕ). s ++ behind) b.parts in
    let whole : items_by (term_at d) (length (b.first ∷ (b.others ++ behind))) (b.first ∷ (b.others ++ behind)) ≡ Ok (items, rest) = sym (ap (λ (s : List ℕ). items_by (term_at d) (length s) s) parts) ∙ read in
    ap (tuple_by (term_at d)) (no_blanks text behind b ∙ parts) ∙ rw (differ b.first 125 b.brace, whole, lt_true (length items) (2 ^ 32) short) refl

empty_again : (d : ℕ) (rest : List ℕ) → term_at (suc d) (123 ∷ 125 ∷ rest) ≡ Ok (tuple_term no_terms, after_blanks rest)
unfolding term_at
empty_again d rest = ap (tuple_by (term_at d)) (blanks_end 125 rest (omega arith))

-- each element has its comma
items_long : (xs : Terms) → count_of xs ≤ length (items_text (44 ∷ []) xs)
items_long no_terms = omega arith
items_long (more_terms x xs) = omega (arith, length-append (44 ∷ text_of x) (items_text (44 ∷ []) xs), items_long xs)

pub count_is : (xs : Terms) → length (elements_of xs) ≡ count_of xs
count_is no_terms = refl
count_is (more_terms x xs) = ap suc (count_is xs)

-- a tuple that has elements
filled_again : (x : TermValue) (xs : Terms) (d : ℕ) (rest : List ℕ) → Begins (text_of x) → suc (count_of xs) < 2 ^ 32
    → term_at d (text_of x ++ (items_text (44 ∷ []) xs ++ 125 ∷ rest)) ≡ Ok (x, items_text (44 ∷ []) xs ++ 125 ∷ rest)
    → ((n : ℕ) → count_of xs ≤ n → items_after (items_by (term_at d) n) (items_text (44 ∷ []) xs ++ 125 ∷ rest) ≡ Ok (elements_of xs, after_blanks rest))
    → term_at (suc d) (123 ∷ (text_of x ++ (items_text (44 ∷ []) xs ++ 125 ∷ rest))) ≡ Ok (tuple_term (more_terms x xs), after_blanks rest)
filled_again x xs d rest b short first others =
    let behind = items_text (44 ∷ []) xs ++ 125 ∷ rest in
    let n = length (b.others ++ behind) in
    let fuel : length (text_of x ++ behind) ≡ suc n = ap (λ (s : List ℕ). length (s ++ behind)) b.parts in
    let enough : count_of xs ≤ n = omega (arith, items_long xs, length-append b.others behind, length-append (items_text (44 ∷ []) xs) (125 ∷ rest)) in
    let read : items_by (term_at d) (length (text_of x ++ behind)) (text_of x ++ behind) ≡ Ok (x ∷ elements_of xs, after_blanks rest) =
    ap (λ (k : ℕ). items_by (term_at d) k (text_of x ++ behind)) fuel ∙ item_again x (elements_of xs) d n (text_of x ++ behind) behind (after_blanks rest) first (others n enough) in
    tuple_again (x ∷ elements_of xs) d (text_of x) behind (after_blanks rest) b (omega (arith, count_is xs)) read
    ∙ ap (λ (ts : Terms). Ok (tuple_term (more_terms x ts), after_blanks rest)) (terms_of-elements_of xs)

-- ---- terms

-- the texts, with their parts to the right
list_parts : (h t r : List ℕ) → ((91 ∷ h) ++ t ++ 93 ∷ []) ++ r ≡ 91 ∷ (h ++ (t ++ 93 ∷ r))
list_parts h t r = ap (λ (s : List ℕ). 91 ∷ s) (append_assoc (h ++ t) (93 ∷ []) r ∙ append_assoc h t (93 ∷ r))

tuple_parts : (h t r : List ℕ) → ((123 ∷ (h ++ t)) ++ 125 ∷ []) ++ r ≡ 123 ∷ (h ++ (t ++ 125 ∷ r))
tuple_parts h t r = ap (λ (s : List ℕ). 123 ∷ s) (append_assoc (h ++ t) (125 ∷ []) r ∙ append_assoc h t (125 ∷ r))

mutual
  pub term_again : (t : TermValue) (d : ℕ) (rest : List ℕ) → IsInRange t → HasText t → depth_of t ≤ d → IsApart rest → term_at d (text_of t ++ rest) ≡ Ok (t, after_blanks rest)
  term_again (int_term z) d rest r p s a = integer_term_again z d rest r a
  term_again (atom_term name) d rest r p s a = atom_term_again name d rest r a
  term_again (reference_term node creation words) d rest r p s a = absurd p
  term_again (pid_term node id serial creation) d rest r p s a = absurd p
  term_again nil_term d rest r p s a = nil_again d rest
  term_again (pair_term h t) zero rest r p s a = absurd (omega arith)
  term_again (pair_term h t) (suc d) rest r p s a =
      let m = tail_marked t rest in
      let first : term_at d (text_of h ++ (tail_text t ++ 93 ∷ rest)) ≡ Ok (h, tail_text t ++ 93 ∷ rest) =
      term_again h d (tail_text t ++ 93 ∷ rest) r.0 p.0 (omega arith) m.apart ∙ ap (λ (b : List ℕ). Ok (h, b)) m.plain in
      ap (term_at (suc d)) (list_parts (text_of h) (tail_text t) rest)
      ∙ list_again (pair_term h t) d (text_of h) (tail_text t ++ 93 ∷ rest) (after_blanks rest) (text_begins h r.0 p.0)
      (pairs_again h t d (text_of h ++ (tail_text t ++ 93 ∷ rest)) (tail_text t ++ 93 ∷ rest) (after_blanks rest) first (tail_again t d rest r.1 p.1 (omega arith)))
  term_again (tuple_term items) zero rest r p s a = absurd (omega arith)
  term_again (tuple_term no_terms) (suc d) rest r p s a = empty_again d rest
  term_again (tuple_term (more_terms x xs)) (suc d) rest r p s a =
      let m = items_marked xs rest in
      let first : term_at d (text_of x ++ (items_text (44 ∷ []) xs ++ 125 ∷ rest)) ≡ Ok (x, items_text (44 ∷ []) xs ++ 125 ∷ rest) =
      term_again x d (items_text (44 ∷ []) xs ++ 125 ∷ rest) r.1.0 p.0 (omega arith) m.apart ∙ ap (λ (b : List ℕ). Ok (x, b)) m.plain in
      ap (term_at (suc d)) (tuple_parts (text_of x) (items_text (44 ∷ []) xs) rest)
      ∙ filled_again x xs d rest (text_begins x r.1.0 p.0) r.0 first (λ n e. items_again xs d n rest r.1.1 p.1 (omega arith) e)

  tail_again : (t : TermValue) (d : ℕ) (rest : List ℕ) → IsInRange t → HasText t → depth_of t ≤ d → tail_by (term_at d) (pairs_at d) (tail_text t ++ 93 ∷ rest) ≡ Ok (t, after_blanks rest)
  tail_again (int_term z) d rest r p s =
      improper_again (int_term z) d (signed_decimal z ++ 93 ∷ rest) rest (no_blanks (signed_decimal z) (93 ∷ rest) (text_begins (int_term z) r p))
      (integer_term_again z d (93 ∷ rest) r refl ∙ ap (λ (b : List ℕ). Ok (int_term z, b)) (blanks_end 93 rest (omega arith)))
  tail_again (atom_term name) d rest r p s =
      improper_again (atom_term name) d (atom_text name ++ 93 ∷ rest) rest (no_blanks (atom_text name) (93 ∷ rest) (text_begins (atom_term name) r p))
      (atom_term_again name d (93 ∷ rest) r refl ∙ ap (λ (b : List ℕ). Ok (atom_term name, b)) (blanks_end 93 rest (omega arith)))
  tail_again (reference_term node creation words) d rest r p s = absurd p
  tail_again (pid_term node id serial creation) d rest r p s = absurd p
  tail_again nil_term d rest r p s = refl
  tail_again (pair_term h t) zero rest r p s = absurd (omega arith)
  tail_again (pair_term h t) (suc d) rest r p s =
      let m = tail_marked t rest in
      let first : term_at d (text_of h ++ (tail_text t ++ 93 ∷ rest)) ≡ Ok (h, tail_text t ++ 93 ∷ rest) =
      term_again h d (tail_text t ++ 93 ∷ rest) r.0 p.0 (omega arith) m.apart ∙ ap (λ (b : List ℕ). Ok (h, b)) m.plain in
      ap (λ (s : List ℕ). tail_by (term_at (suc d)) (pairs_at (suc d)) (44 ∷ s)) (append_assoc (text_of h) (tail_text t) (93 ∷ rest))
      ∙ further_again (pair_term h t) d (text_of h ++ (tail_text t ++ 93 ∷ rest)) (after_blanks rest) (no_blanks (text_of h) (tail_text t ++ 93 ∷ rest) (text_begins h r.0 p.0))
      (pairs_again h t d (text_of h ++ (tail_text t ++ 93 ∷ rest)) (tail_text t ++ 93 ∷ rest) (after_blanks rest) first (tail_again t d rest r.1 p.1 (omega arith)))
  tail_again (tuple_term items) zero rest r p s = absurd (omega arith)
  tail_again (tuple_term no_terms) (suc d) rest r p s =
      improper_again (tuple_term no_terms) (suc d) (123 ∷ 125 ∷ 93 ∷ rest) rest (blanks_end 123 (125 ∷ 93 ∷ rest) (omega arith))
      (empty_again d (93 ∷ rest) ∙ ap (λ (b : List ℕ). Ok (tuple_term no_terms, b)) (blanks_end 93 rest (omega arith)))
  tail_again (tuple_term (more_terms x xs)) (suc d) rest r p s =
      let m = items_marked xs (93 ∷ rest) in
      let first : term_at d (text_of x ++ (items_text (44 ∷ []) xs ++ 125 ∷ 93 ∷ rest)) ≡ Ok (x, items_text (44 ∷ []) xs ++ 125 ∷ 93 ∷ rest) =
      term_again x d (items_text (44 ∷ []) xs ++ 125 ∷ 93 ∷ rest) r.1.0 p.0 (omega arith) m.apart ∙ ap (λ (b : List ℕ). Ok (x, b)) m.plain in
      ap (λ (s : List ℕ). tail_by (term_at (suc d)) (pairs_at (suc d)) (124 ∷ s)) (tuple_parts (text_of x) (items_text (44 ∷ []) xs) (93 ∷ rest))
      ∙ improper_again (tuple_term (more_terms x xs)) (suc d) (123 ∷ (text_of x ++ (items_text (44 ∷ []) xs ++ 125 ∷ 93 ∷ rest))) rest (blanks_end 123 (text_of x ++ (items_text (44 ∷ []) xs ++ 125 ∷ 93 ∷ rest)) (omega arith))
      (filled_again x xs d (93 ∷ rest) (text_begins x r.1.0 p.0) r.0 first (λ n e. items_again xs d n (93 ∷ rest) r.1.1 p.1 (omega arith) e)
      ∙ ap (λ (b : List ℕ). Ok (tuple_term (more_terms x xs), b)) (blanks_end 93 rest (omega arith)))

  items_again : (xs : Terms) (d n : ℕ) (rest : List ℕ) → AreInRange xs → AllHaveText xs → items_depth xs ≤ d → count_of xs ≤ n
      → items_after (items_by (term_at d) n) (items_text (44 ∷ []) xs ++ 125 ∷ rest) ≡ Ok (elements_of xs, after_blanks rest)
  items_again no_terms d n rest r p s e = refl
  items_again (more_terms y ys) d zero rest r p s e = absurd (omega arith)
  items_again (more_terms y ys) d (suc n) rest r p s e =
      let m = items_marked ys rest in
      let first : term_at d (text_of y ++ (items_text (44 ∷ []) ys ++ 125 ∷ rest)) ≡ Ok (y, items_text (44 ∷ []) ys ++ 125 ∷ rest) =
      term_again y d (items_text (44 ∷ []) ys ++ 125 ∷ rest) r.0 p.0 (omega arith) m.apart ∙ ap (λ (b : List ℕ). Ok (y, b)) m.plain in
      ap (λ (t : List ℕ). items_after (items_by (term_at d) (suc n)) (44 ∷ t)) (append_assoc (text_of y) (items_text (44 ∷ []) ys) (125 ∷ rest))
      ∙ ap (items_by (term_at d) (suc n)) (no_blanks (text_of y) (items_text (44 ∷ []) ys ++ 125 ∷ rest) (text_begins y r.0 p.0))
      ∙ item_again y (elements_of ys) d n (text_of y ++ (items_text (44 ∷ []) ys ++ 125 ∷ rest)) (items_text (44 ∷ []) ys ++ 125 ∷ rest) (after_blanks rest) first
      (items_again ys d n rest r.1 p.1 (omega arith) (omega arith))

pub text_again : (t : TermValue) → IsTerm t → HasText t → term_of_text (text_of t) ≡ Ok t
unfolding read_text after_blanks
text_again t lawful printed =
    let b = text_begins t lawful.in_range printed in
    let plain : after_blanks (text_of t) ≡ text_of t = ap after_blanks (sym (append-nil (text_of t))) ∙ no_blanks (text_of t) [] b ∙ append-nil (text_of t) in
    let read : term_at 4096 (text_of t) ≡ Ok (t, []) = ap (term_at 4096) (sym (append-nil (text_of t))) ∙ term_again t 4096 [] lawful.in_range printed lawful.shallow tt in
    ap (λ (s : List ℕ). at_line (text_of t) (term_at 4096 s >>= λ u. whole u.0 u.1)) plain
    ∙ ap (λ (r : Reading TermValue). at_line (text_of t) (r >>= λ u. whole u.0 u.1)) read
