-- Printed texts, as scanned for comments, full stops and commas: the scan ends as it begins, outside of quotes and brackets.
use Rattle.std.proofs.Common.{◌≡◌, ℕ, suc, ◌+◌, ◌/◌, ◌%◌, ◌^◌, ◌<◌, ◌≤◌, Bool, true, false, cond, ◌⊎◌, inl, inr, ℤ, pos, negsuc, List, [], ◌∷◌, ◌++◌, length, Some, refl, sym, ap, ◌∙◌, subst, arith, ◌==◌, ◌&&◌, ◌||◌, nat_le, nat_lt}
use Rattle.std.specs.List.{list_all, flat_map}
use Rattle.std.specs.Fmt.{signed_decimal, digits, digit_glyph, decimal}
use Rattle.std.proofs.lemmas.Fmt.{decimal_by_steps, hex_one_digit, hex_two_digits}
use Rattle.std.proofs.lemmas.Bool.{cases_lt, and_parts, or_parts}
use Rattle.std.proofs.lemmas.Bool.Decides.{nat_tests}
use Rattle.std.proofs.lemmas.Int.{ints}
use Rattle.std.proofs.lemmas.List.Concat.{flat_map-cons}
use Rattle.std.proofs.lemmas.List.Folds.{list_all-append}
use Rattle.beam_lemmas.proofs.Tests.{and_false}
use Rattle.beam_model.specs.declared.lex_state.LexState.{LexState}
use Rattle.beam_model.specs.Prelude.{is_lower, is_digit, is_name, is_unquoted, escaped, atom_text, text_of, tail_text, items_text, HasText, AllHaveText, inside_after, is_comment, is_closing, open_after, is_stop, stop_from, uncommented_from}
use Rattle.beam_term.specs.Prelude.{TermValue, Terms, int_term, atom_term, reference_term, pid_term, nil_term, pair_term, tuple_term, no_terms, more_terms, IsSmall, IsInRange, AreInRange}
use Rattle.beam_model.specs.declared.lex_state.LexState.TheVariants as inside
use Rattle.beam_erltext.proofs.Texts.{differ}
use Rattle.beam_erltext.proofs.IntegerRoundTrip.{digit_is}
use Rattle.beam_erltext.proofs.AtomRoundTrip.{bare_is}

-- no byte of the text is a stop or a part of a comment, and the scan leads from one state to another
abbrev pub Trace : ℕ → LexState → List ℕ → List ℕ → LexState → List ℕ → Type 0
Trace mark s d [] t e = (s ≡ t) × (d ≡ e)
Trace mark s d (c ∷ cs) t e =
    (is_stop mark s d c ≡ false) × (is_comment (inside_after s c) ≡ false)
    × ((inner : List ℕ) × (open_after s c d ≡ Some inner) × Trace mark (inside_after s c) inner cs t e)

-- the marks that are looked for: comma and full stop
abbrev pub IsMark : ℕ → Type 0
IsMark mark = (mark ≡ 44) ⊎ (mark ≡ 46)

-- a scan from outside of quotes to outside, whatever brackets are open; and one within at least one bracket
abbrev pub Safe : List ℕ → Type 0
Safe text = (mark : ℕ) → IsMark mark → (d : List ℕ) → Trace mark inside.Nothing d text inside.Nothing d

abbrev pub Inner : List ℕ → Type 0
Inner text = (mark : ℕ) → IsMark mark → (o : ℕ) (d : List ℕ) → Trace mark inside.Nothing (o ∷ d) text inside.Nothing (o ∷ d)

pub trace_append : (mark : ℕ) (s : LexState) (d xs : List ℕ) (t : LexState) (e ys : List ℕ) (u : LexState) (f : List ℕ)
    → Trace mark s d xs t e → Trace mark t e ys u f → Trace mark s d (xs ++ ys) u f
trace_append mark s d [] t e ys u f first second = subst (λ (k : List ℕ). Trace mark s k ys u f) (sym first.1) (subst (λ (x : LexState). Trace mark x e ys u f) (sym first.0) second)
trace_append mark s d (c ∷ cs) t e ys u f first second =
    (first.0, first.1, (first.2.0, first.2.1, trace_append mark (inside_after s c) first.2.0 cs t e ys u f first.2.2 second))

pub safe_append : (xs ys : List ℕ) → Safe xs → Safe ys → Safe (xs ++ ys)
safe_append xs ys first second mark m d = trace_append mark inside.Nothing d xs inside.Nothing d ys inside.Nothing d (first mark m d) (second mark m d)

pub inner_append : (xs ys : List ℕ) → Inner xs → Inner ys → Inner (xs ++ ys)
inner_append xs ys first second mark m o d = trace_append mark inside.Nothing (o ∷ d) xs inside.Nothing (o ∷ d) ys inside.Nothing (o ∷ d) (first mark m o d) (second mark m o d)

pub inner_of : (text : List ℕ) → Safe text → Inner text
inner_of text safe mark m o d = safe mark m (o ∷ d)

-- ---- facts of traces

pub stop_behind : (mark : ℕ) (s : LexState) (d text : List ℕ) (t : LexState) (e : List ℕ) (n : ℕ) (rest : List ℕ) → Trace mark s d text t e
    → stop_from mark s d n (text ++ rest) ≡ stop_from mark t e (n + length text) rest
unfolding stop_from
stop_behind mark s d [] t e n rest h =
    ap (λ (x : LexState). stop_from mark x d n rest) h.0 ∙ ap (λ (k : List ℕ). stop_from mark t k n rest) h.1 ∙ ap (λ (k : ℕ). stop_from mark t e k rest) (omega arith)
stop_behind mark s d (c ∷ cs) t e n rest h =
    rw (h.0, h.2.1) (stop_behind mark (inside_after s c) h.2.0 cs t e (n + 1) rest h.2.2 ∙ ap (λ (k : ℕ). stop_from mark t e k rest) (omega arith))

pub uncommented_behind : (mark : ℕ) (s : LexState) (d text : List ℕ) (t : LexState) (e rest : List ℕ) → Trace mark s d text t e
    → uncommented_from s (text ++ rest) ≡ text ++ uncommented_from t rest
unfolding uncommented_from
uncommented_behind mark s d [] t e rest h = ap (λ (x : LexState). uncommented_from x rest) h.0
uncommented_behind mark s d (c ∷ cs) t e rest h =
    rw h.1 (ap (λ (text : List ℕ). c ∷ text) (uncommented_behind mark (inside_after s c) h.2.0 cs t e rest h.2.2))

-- ---- bytes outside of quotes

-- a byte that is neither a quote nor a bracket, and begins no comment
pub record IsPlain (c : ℕ) : Type 0 where
  pub percent : (c == 37) ≡ false
  pub double : (c == 34) ≡ false
  pub single : (c == 39) ≡ false
  pub round : (c == 40) ≡ false
  pub square : (c == 91) ≡ false
  pub brace : (c == 123) ≡ false
  pub closing : is_closing c ≡ false

is_no_stop : (mark : ℕ) (d : List ℕ) (c : ℕ) → (c == mark) ≡ false → is_closing c ≡ false → is_stop mark inside.Nothing d c ≡ false
is_no_stop mark d c m k = rw (m, k) (and_false (length d == 0))

plain_inside : (c : ℕ) → IsPlain c → inside_after inside.Nothing c ≡ inside.Nothing
plain_inside c p = rw (p.percent, p.double, p.single) refl

plain_open : (c : ℕ) (d : List ℕ) → IsPlain c → open_after inside.Nothing c d ≡ Some d
plain_open c d p = rw (p.round, p.square, p.brace, p.closing) refl

pub plain_trace : (mark : ℕ) (d : List ℕ) (c : ℕ) → IsPlain c → (c == mark) ≡ false → Trace mark inside.Nothing d (c ∷ []) inside.Nothing d
plain_trace mark d c p m = (is_no_stop mark d c m p.closing, ap is_comment (plain_inside c p), (d, plain_open c d p, (plain_inside c p, refl)))

-- a comma between brackets
deep : (o : ℕ) (d : List ℕ) → (length (o ∷ d) == 0) ≡ false
deep o d = differ (length (o ∷ d)) 0 (λ e. omega (arith, e))

pub comma_inner : Inner (44 ∷ [])
comma_inner mark m o d = (rw (deep o d) refl, refl, (o ∷ d, refl, (refl, refl)))

-- ---- names and numbers

not_name : (c k : ℕ) → is_name c ≡ true → is_name k ≡ false → (c == k) ≡ false
not_name c k e f = differ c k (λ same. let bad : true ≡ false = sym e ∙ ap is_name same ∙ f in cc)

name_plain : (c : ℕ) → is_name c ≡ true → IsPlain c
name_plain c e = record {
  percent = not_name c 37 e refl;
  double = not_name c 34 e refl;
  single = not_name c 39 e refl;
  round = not_name c 40 e refl;
  square = not_name c 91 e refl;
  brace = not_name c 123 e refl;
  closing = rw (not_name c 41 e refl, not_name c 93 e refl, not_name c 125 e refl) refl;
}

mark_no_name : (c mark : ℕ) → is_name c ≡ true → IsMark mark → (c == mark) ≡ false
mark_no_name c mark e (inl m) = rw m (not_name c 44 e refl)
mark_no_name c mark e (inr m) = rw m (not_name c 46 e refl)

pub safe_name : (text : List ℕ) → list_all is_name text ≡ true → Safe text
safe_name [] all mark m d = (refl, refl)
safe_name (c ∷ cs) all mark m d =
    let both = and_parts (is_name c) (list_all is_name cs) all in
    trace_append mark inside.Nothing d (c ∷ []) inside.Nothing d cs inside.Nothing d
    (plain_trace mark d c (name_plain c both.0) (mark_no_name c mark both.0 m)) (safe_name cs both.1 mark m d)

or_digit : (a b x y : Bool) → b ≡ true → (((a || b) || x) || y) ≡ true
or_digit true b x y e = refl
or_digit false b x y e = rw e refl

digit_name : (c : ℕ) → 48 ≤ c → c ≤ 57 → is_name c ≡ true
digit_name c l h = or_digit (is_lower c) (is_digit c) (nat_le 64 c && nat_le c 90) (c == 95) (digit_is c l h)

pub decimal_names : (n : ℕ) → n < 2 ^ 64 → list_all is_name (decimal n) ≡ true
decimal_names n lt = decimal_by_steps (λ n ds. list_all is_name ds ≡ true) one more n lt
  where
    one : (n : ℕ) → n < 10 → list_all is_name ((48 + n) ∷ []) ≡ true
    one n h = rw (digit_name (48 + n) (omega arith) (omega arith)) refl

    more : (n : ℕ) (ds : List ℕ) → 10 ≤ n → list_all is_name ds ≡ true → list_all is_name (ds ++ ((48 + n % 10) ∷ [])) ≡ true
    more n ds h all = list_all-append is_name ds ((48 + n % 10) ∷ []) ∙ rw (all, digit_name (48 + n % 10) (omega arith) (omega arith)) refl

pub safe_decimal : (n : ℕ) → n < 2 ^ 64 → Safe (decimal n)
safe_decimal n lt = safe_name (decimal n) (decimal_names n lt)

minus_safe : Safe (45 ∷ [])
minus_safe mark (inl m) d = plain_trace mark d 45 (record { percent = refl; double = refl; single = refl; round = refl; square = refl; brace = refl; closing = refl }) (rw m refl)
minus_safe mark (inr m) d = plain_trace mark d 45 (record { percent = refl; double = refl; single = refl; round = refl; square = refl; brace = refl; closing = refl }) (rw m refl)

pub safe_integer : (z : ℤ) → IsSmall z → Safe (signed_decimal z)
safe_integer (pos n) small = safe_decimal n (let lt : n < 2 ^ 59 = omega (arith, ints) in omega arith)
safe_integer (negsuc n) small = safe_append (45 ∷ []) (decimal (suc n)) minus_safe (safe_decimal (suc n) (let le : suc n ≤ 2 ^ 59 = omega (arith, ints) in omega arith))

-- ---- quotes

abbrev Quoted : List ℕ → Type 0
Quoted text = (mark : ℕ) (d : List ℕ) → Trace mark (inside.Quotes 39) d text (inside.Quotes 39) d

quoted_append : (xs ys : List ℕ) → Quoted xs → Quoted ys → Quoted (xs ++ ys)
quoted_append xs ys first second mark d = trace_append mark (inside.Quotes 39) d xs (inside.Quotes 39) d ys (inside.Quotes 39) d (first mark d) (second mark d)

quoted_byte : (c : ℕ) → (c == 39) ≡ false → (c == 92) ≡ false → Quoted (c ∷ [])
quoted_byte c q b mark d =
    let same : inside_after (inside.Quotes 39) c ≡ inside.Quotes 39 = rw (q, b) refl in
    (refl, ap is_comment same, (d, refl, (same, refl)))

quoted_escape : (c : ℕ) → Quoted (92 ∷ c ∷ [])
quoted_escape c mark d = (refl, refl, (d, refl, (refl, refl, (d, refl, (refl, refl)))))

quoted_glyph : (d : ℕ) → d < 16 → Quoted (digit_glyph true d ∷ [])
quoted_glyph d h = quoted_byte (digit_glyph true d) (differ (digit_glyph true d) 39 (λ e. grind (arith, nat_tests, e))) (differ (digit_glyph true d) 92 (λ e. grind (arith, nat_tests, e)))

quoted_hex : (c : ℕ) → c < 256 → Quoted (digits 16 true c)
quoted_hex c small = by (cases_lt c 16)
  where
    by : (c < 16) ⊎ (16 ≤ c) → Quoted (digits 16 true c)
    by (inl h) = rw (hex_one_digit true c h) (quoted_glyph c h)
    by (inr h) = rw (hex_two_digits true c h small) (quoted_append (digit_glyph true (c / 16) ∷ []) (digit_glyph true (c % 16) ∷ []) (quoted_glyph (c / 16) (omega arith)) (quoted_glyph (c % 16) (omega arith)))

abbrev escaped_by : ℕ → Bool → Bool → List ℕ
escaped_by c mark control = cond mark (92 ∷ c ∷ []) (cond control (92 ∷ 120 ∷ 123 ∷ (digits 16 true c ++ 125 ∷ [])) (c ∷ []))

quoted_escaped : (c : ℕ) → Quoted (escaped c)
quoted_escaped c = by (c == 39 || c == 92) (nat_lt c 32 || c == 127) refl refl
  where
    low : (nat_lt c 32 || c == 127) ≡ true → c < 256
    low e = grind (arith, nat_tests)

    by : (mark control : Bool) → (c == 39 || c == 92) ≡ mark → (nat_lt c 32 || c == 127) ≡ control → Quoted (escaped_by c mark control)
    by true control e f = quoted_escape c
    by false true e f =
        quoted_append (92 ∷ 120 ∷ []) (123 ∷ (digits 16 true c ++ 125 ∷ [])) (quoted_escape 120)
        (quoted_append (123 ∷ []) (digits 16 true c ++ 125 ∷ []) (quoted_byte 123 refl refl)
        (quoted_append (digits 16 true c) (125 ∷ []) (quoted_hex c (low f)) (quoted_byte 125 refl refl)))
    by false false e f = quoted_byte c (or_parts (c == 39) (c == 92) e).0 (or_parts (c == 39) (c == 92) e).1

quoted_name : (name : List ℕ) → Quoted (flat_map escaped name)
quoted_name [] = λ mark d. (refl, refl)
quoted_name (c ∷ cs) = rw (flat_map-cons escaped c cs) (quoted_append (escaped c) (flat_map escaped cs) (quoted_escaped c) (quoted_name cs))

-- a text that is quoted, in quotes
in_quotes : (text : List ℕ) → Quoted text → Safe (39 ∷ (text ++ 39 ∷ []))
in_quotes text q mark m d =
    (opened mark m d, refl, (d, refl, trace_append mark (inside.Quotes 39) d text (inside.Quotes 39) d (39 ∷ []) inside.Nothing d (q mark d) (refl, refl, (d, refl, (refl, refl)))))
  where
    opened : (mark : ℕ) → IsMark mark → (d : List ℕ) → is_stop mark inside.Nothing d 39 ≡ false
    opened mark (inl e) d = is_no_stop mark d 39 (rw e refl) refl
    opened mark (inr e) d = is_no_stop mark d 39 (rw e refl) refl

pub safe_atom : (name : List ℕ) → Safe (atom_text name)
safe_atom name = by name (is_unquoted name) refl
  where
    by : (name : List ℕ) (bare : Bool) → is_unquoted name ≡ bare → Safe (cond bare name (39 ∷ (flat_map escaped name ++ 39 ∷ [])))
    by [] true e = absurd cc
    by (c ∷ cs) true e = safe_name (c ∷ cs) (bare_is c cs e).names
    by name false e = in_quotes (flat_map escaped name) (quoted_name name)

-- ---- brackets

pub data Brackets : Type 0 where
  square : Brackets
  brace : Brackets

abbrev pub left : Brackets → ℕ
left square = 91
left brace = 123

abbrev pub right : Brackets → ℕ
right square = 93
right brace = 125

left_opens : (b : Brackets) (mark : ℕ) → IsMark mark → (d : List ℕ) → is_stop mark inside.Nothing d (left b) ≡ false
left_opens square mark (inl e) d = is_no_stop mark d 91 (rw e refl) refl
left_opens square mark (inr e) d = is_no_stop mark d 91 (rw e refl) refl
left_opens brace mark (inl e) d = is_no_stop mark d 123 (rw e refl) refl
left_opens brace mark (inr e) d = is_no_stop mark d 123 (rw e refl) refl

right_closes : (b : Brackets) (mark : ℕ) (d : List ℕ) → Trace mark inside.Nothing (right b ∷ d) (right b ∷ []) inside.Nothing d
right_closes square mark d = (rw (deep 93 d) refl, refl, (d, refl, (refl, refl)))
right_closes brace mark d = (rw (deep 125 d) refl, refl, (d, refl, (refl, refl)))

closed_trace : (b : Brackets) (text : List ℕ) → Inner text → (mark : ℕ) → IsMark mark → (d : List ℕ) → Trace mark inside.Nothing (right b ∷ d) (text ++ right b ∷ []) inside.Nothing d
closed_trace b text inner mark m d = trace_append mark inside.Nothing (right b ∷ d) text inside.Nothing (right b ∷ d) (right b ∷ []) inside.Nothing d (inner mark m (right b) d) (right_closes b mark d)

pub in_brackets : (b : Brackets) (text : List ℕ) → Inner text → Safe (left b ∷ (text ++ right b ∷ []))
in_brackets square text inner mark m d = (left_opens square mark m d, refl, (93 ∷ d, refl, closed_trace square text inner mark m d))
in_brackets brace text inner mark m d = (left_opens brace mark m d, refl, (125 ∷ d, refl, closed_trace brace text inner mark m d))

pub bar_safe : Safe (124 ∷ [])
bar_safe mark (inl m) d = plain_trace mark d 124 (record { percent = refl; double = refl; single = refl; round = refl; square = refl; brace = refl; closing = refl }) (rw m refl)
bar_safe mark (inr m) d = plain_trace mark d 124 (record { percent = refl; double = refl; single = refl; round = refl; square = refl; brace = refl; closing = refl }) (rw m refl)

pub empty_safe : Safe []
empty_safe mark m d = (refl, refl)

mutual
  pub safe_term : (t : TermValue) → IsInRange t → HasText t → Safe (text_of t)
  safe_term (int_term z) r p = safe_integer z r
  safe_term (atom_term name) r p = safe_atom name
  safe_term (reference_term node creation words) r p = absurd p
  safe_term (pid_term node id serial creation) r p = absurd p
  safe_term nil_term r p = in_brackets square [] (inner_of [] empty_safe)
  safe_term (pair_term h t) r p = in_brackets square (text_of h ++ tail_text t) (inner_append (text_of h) (tail_text t) (inner_of (text_of h) (safe_term h r.0 p.0)) (inner_tail t r.1 p.1))
  safe_term (tuple_term items) r p = in_brackets brace (items_text [] items) (inner_items [] items (inner_of [] empty_safe) r.1 p)

  inner_tail : (t : TermValue) → IsInRange t → HasText t → Inner (tail_text t)
  inner_tail nil_term r p = inner_of [] empty_safe
  inner_tail (pair_term h t) r p =
      inner_append (44 ∷ text_of h) (tail_text t) (inner_append (44 ∷ []) (text_of h) comma_inner (inner_of (text_of h) (safe_term h r.0 p.0))) (inner_tail t r.1 p.1)
  inner_tail (int_term z) r p = inner_of (124 ∷ signed_decimal z) (safe_append (124 ∷ []) (signed_decimal z) bar_safe (safe_integer z r))
  inner_tail (atom_term name) r p = inner_of (124 ∷ atom_text name) (safe_append (124 ∷ []) (atom_text name) bar_safe (safe_atom name))
  inner_tail (reference_term node creation words) r p = absurd p
  inner_tail (pid_term node id serial creation) r p = absurd p
  inner_tail (tuple_term items) r p = inner_of (124 ∷ text_of (tuple_term items)) (safe_append (124 ∷ []) (text_of (tuple_term items)) bar_safe (in_brackets brace (items_text [] items) (inner_items [] items (inner_of [] empty_safe) r.1 p)))

  inner_items : (before : List ℕ) (xs : Terms) → Inner before → AreInRange xs → AllHaveText xs → Inner (items_text before xs)
  inner_items before no_terms b r p = inner_of [] empty_safe
  inner_items before (more_terms x xs) b r p =
      inner_append (before ++ text_of x) (items_text (44 ∷ []) xs) (inner_append before (text_of x) b (inner_of (text_of x) (safe_term x r.0 p.0))) (inner_items (44 ∷ []) xs comma_inner r.1 p.1)
