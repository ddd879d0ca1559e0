-- An atom that is printed is read again.
use Rattle.std.proofs.Common.{◌≡◌, ℕ, zero, suc, ◌+◌, ◌*◌, ◌/◌, ◌%◌, ◌<◌, ◌≤◌, Bool, true, false, cond, ◌⊎◌, inl, inr, List, [], ◌∷◌, ◌++◌, length, take, drop, Ok, refl, ap, ◌∙◌, append_assoc, arith, nat_le, nat_lt, ◌||◌, ◌&&◌, ◌==◌, eqb-true, length-append}
use Rattle.std.specs.Str.{chars}
use Rattle.std.specs.List.{list_all, flat_map}
use Rattle.std.specs.Char.{digit_value}
use Rattle.std.specs.Fmt.{digits, digit_glyph}
use Rattle.std.proofs.lemmas.Fmt.{hex_one_digit, hex_two_digits}
use Rattle.std.proofs.lemmas.Bool.{cases_lt, and_parts, or_parts}
use Rattle.std.proofs.lemmas.Bool.Decides.{nat_tests}
use Rattle.std.proofs.lemmas.List.Concat.{flat_map-cons}
use mathlib.Core.Bool.{not}
use Rattle.std.proofs.Math.Seq.{take-append_seam, drop-append_seam}
use Rattle.std.proofs.lemmas.Str.{encode_ascii, is_utf8-from_IsUtf8}
use Rattle.std.proofs.Math.Utf8.{low_scalar}
use Rattle.beam_model.specs.Prelude.{is_lower, is_name, is_reserved, is_unquoted, escaped, atom_text, Reading, fault_at, with_front, after_blanks, hexadecimal_after, hexadecimal_at, code_point_at, escape_at, quoted_within, name_len, is_atom_text, checked_atom, unquoted_atom_at, atom_at}
use Rattle.beam_term.specs.Prelude.{IsAtomText}
use Rattle.beam_erltext.proofs.Texts.{differ}
use Rattle.beam_erltext.proofs.IntegerRoundTrip.{IsApart, le_true, lt_true}

-- ---- hexadecimal

glyph_value : (d : ℕ) → d < 16 → digit_value (digit_glyph true d) ≡ d
glyph_value d h = grind (arith, nat_tests)

hexadecimal_step : (m d : ℕ) (rest : List ℕ) → d < 16 → 16 * m + d < 0x110000 → hexadecimal_after m (digit_glyph true d ∷ rest) ≡ hexadecimal_after (16 * m + d) rest
unfolding hexadecimal_after
hexadecimal_step m d rest h small = rw (glyph_value d h, lt_true d 16 h, lt_true (16 * m + d) 0x110000 small) refl

hexadecimal_end : (n : ℕ) (rest : List ℕ) → hexadecimal_after n (125 ∷ rest) ≡ Ok (n, rest)
unfolding hexadecimal_after
hexadecimal_end n rest = refl

hexadecimal_begins : (d : ℕ) (rest : List ℕ) → d < 16 → hexadecimal_at (digit_glyph true d ∷ rest) ≡ hexadecimal_after 0 (digit_glyph true d ∷ rest)
unfolding hexadecimal_at
hexadecimal_begins d rest h = rw (glyph_value d h, lt_true d 16 h) refl

hexadecimal_again : (c : ℕ) (rest : List ℕ) → c < 256 → hexadecimal_at (digits 16 true c ++ 125 ∷ rest) ≡ Ok (c, rest)
hexadecimal_again c rest small = by (cases_lt c 16)
  where
    by : (c < 16) ⊎ (16 ≤ c) → hexadecimal_at (digits 16 true c ++ 125 ∷ rest) ≡ Ok (c, rest)
    by (inl h) =
        ap (λ (t : List ℕ). hexadecimal_at (t ++ 125 ∷ rest)) (hex_one_digit true c h) ∙ hexadecimal_begins c (125 ∷ rest) h
        ∙ hexadecimal_step 0 c (125 ∷ rest) h (omega arith) ∙ ap (λ (n : ℕ). hexadecimal_after n (125 ∷ rest)) (omega arith) ∙ hexadecimal_end c rest
    by (inr h) =
        let high : c / 16 < 16 = omega arith in
        let low : c % 16 < 16 = omega arith in
        let whole : 16 * (c / 16) + c % 16 ≡ c = omega arith in
        ap (λ (t : List ℕ). hexadecimal_at (t ++ 125 ∷ rest)) (hex_two_digits true c h small) ∙ hexadecimal_begins (c / 16) (digit_glyph true (c % 16) ∷ 125 ∷ rest) high
        ∙ hexadecimal_step 0 (c / 16) (digit_glyph true (c % 16) ∷ 125 ∷ rest) high (omega arith) ∙ ap (λ (n : ℕ). hexadecimal_after n (digit_glyph true (c % 16) ∷ 125 ∷ rest)) (omega arith)
        ∙ hexadecimal_step (c / 16) (c % 16) (125 ∷ rest) low (omega arith) ∙ ap (λ (n : ℕ). hexadecimal_after n (125 ∷ rest)) whole ∙ hexadecimal_end c rest

-- ---- between quotes

code_again : (c : ℕ) (rest : List ℕ) → c < 128 → escape_at (120 ∷ 123 ∷ (digits 16 true c ++ 125 ∷ rest)) ≡ Ok (c, rest)
unfolding escape_at code_point_at
code_again c rest small = rw (hexadecimal_again c rest (omega arith), low_scalar c (omega arith)) refl

or_true : (a b : Bool) → (a || b) ≡ true → (a ≡ true) ⊎ (b ≡ true)
or_true true b e = inl refl
or_true false b e = inr e

quoted_byte : (c n : ℕ) (rest : List ℕ) → (c == 39) ≡ false → (c == 92) ≡ false → quoted_within (suc n) 39 (c ∷ rest) ≡ with_front (c ∷ []) (quoted_within n 39 rest)
unfolding quoted_within
quoted_byte c n rest q b = rw (q, b) refl

quoted_escape : (c n : ℕ) (text rest : List ℕ) → escape_at text ≡ Ok (c, rest) → c < 128 → quoted_within (suc n) 39 (92 ∷ text) ≡ with_front (c ∷ []) (quoted_within n 39 rest)
unfolding quoted_within
quoted_escape c n text rest h small = rw (h, encode_ascii c small) refl

mark_again : (c : ℕ) (rest : List ℕ) → (c ≡ 39) ⊎ (c ≡ 92) → (escape_at (c ∷ rest) ≡ Ok (c, rest)) × (c < 128)
unfolding escape_at
mark_again c rest (inl e) = (rw e refl, omega (arith, e))
mark_again c rest (inr e) = (rw e refl, omega (arith, e))

-- an escaped byte, by two tests
abbrev escaped_by : ℕ → Bool → Bool → List ℕ
escaped_by c mark control = cond mark (92 ∷ c ∷ []) (cond control (92 ∷ 120 ∷ 123 ∷ (digits 16 true c ++ 125 ∷ [])) (c ∷ []))

-- one byte of a name, as it is printed
escaped_again : (c n : ℕ) (rest : List ℕ) → quoted_within (suc n) 39 (escaped c ++ rest) ≡ with_front (c ∷ []) (quoted_within n 39 rest)
escaped_again c n rest = by (c == 39 || c == 92) (nat_lt c 32 || c == 127) refl refl
  where
    marks : (c == 39 || c == 92) ≡ true → (c ≡ 39) ⊎ (c ≡ 92)
    marks e = elim (or_true (c == 39) (c == 92) e) [ inl a ↦ inl (eqb-true c 39 a) | inr b ↦ inr (eqb-true c 92 b) ]

    low : (nat_lt c 32 || c == 127) ≡ true → c < 128
    low e = grind (arith, nat_tests)

    by : (mark control : Bool) → (c == 39 || c == 92) ≡ mark → (nat_lt c 32 || c == 127) ≡ control → quoted_within (suc n) 39 (escaped_by c mark control ++ rest) ≡ with_front (c ∷ []) (quoted_within n 39 rest)
    by true control e f = quoted_escape c n (c ∷ rest) rest (mark_again c rest (marks e)).0 (mark_again c rest (marks e)).1
    by false true e f =
        ap (λ (t : List ℕ). quoted_within (suc n) 39 (92 ∷ 120 ∷ 123 ∷ t)) (append_assoc (digits 16 true c) (125 ∷ []) rest)
        ∙ quoted_escape c n (120 ∷ 123 ∷ (digits 16 true c ++ 125 ∷ rest)) rest (code_again c rest (low f)) (low f)
    by false false e f = quoted_byte c n rest (or_parts (c == 39) (c == 92) e).0 (or_parts (c == 39) (c == 92) e).1

quoted_again : (name : List ℕ) (n : ℕ) (rest : List ℕ) → length name < n → quoted_within n 39 (flat_map escaped name ++ 39 ∷ rest) ≡ Ok (name, rest)
unfolding quoted_within
quoted_again name zero rest h = absurd (omega arith)
quoted_again [] (suc n) rest h = refl
quoted_again (c ∷ cs) (suc n) rest h =
    ap (λ (t : List ℕ). quoted_within (suc n) 39 (t ++ 39 ∷ rest)) (flat_map-cons escaped c cs)
    ∙ ap (quoted_within (suc n) 39) (append_assoc (escaped c) (flat_map escaped cs) (39 ∷ rest))
    ∙ escaped_again c n (flat_map escaped cs ++ 39 ∷ rest) ∙ ap (with_front (c ∷ [])) (quoted_again cs n rest (omega arith))

escaped_long : (c : ℕ) → 1 ≤ length (escaped c)
escaped_long c = by (c == 39 || c == 92) (nat_lt c 32 || c == 127)
  where
    by : (mark control : Bool) → 1 ≤ length (escaped_by c mark control)
    by true control = omega arith
    by false true = omega arith
    by false false = omega arith

quoted_long : (name : List ℕ) → length name ≤ length (flat_map escaped name)
quoted_long [] = omega arith
quoted_long (c ∷ cs) = omega (arith, ap length (flat_map-cons escaped c cs), length-append (escaped c) (flat_map escaped cs), escaped_long c, quoted_long cs)

-- ---- names

name_len_again : (name rest : List ℕ) → list_all is_name name ≡ true → IsApart rest → name_len (name ++ rest) ≡ length name
name_len_again [] [] all apart = refl
name_len_again [] (c ∷ cs) all apart = rw apart refl
name_len_again (c ∷ cs) rest all apart =
    let both = and_parts (is_name c) (list_all is_name cs) all in
    rw both.0 (ap suc (name_len_again cs rest both.1 apart))

atom_text_is : (name : List ℕ) → IsAtomText name → is_atom_text name ≡ true
atom_text_is name h = rw (is_utf8-from_IsUtf8 name h.utf8, le_true (length (chars name)) 255 h.short) refl

lower_name : (c : ℕ) → is_lower c ≡ true → is_name c ≡ true
lower_name c e = rw e refl

-- what a bare name is
pub record IsBare (first : ℕ) (others : List ℕ) : Type 0 where
  pub low : 97 ≤ first
  pub high : first ≤ 122
  pub names : list_all is_name (first ∷ others) ≡ true

pub bare_is : (c : ℕ) (cs : List ℕ) → is_unquoted (c ∷ cs) ≡ true → IsBare c cs
bare_is c cs e =
    let both = and_parts (is_lower c && not (is_reserved (c ∷ cs))) (list_all is_name cs) e in
    let lower = (and_parts (is_lower c) (not (is_reserved (c ∷ cs))) both.0).0 in
    let ends = and_parts (nat_le 97 c) (nat_le c 122) lower in
    record { low = grind (arith, nat_tests, ends.0); high = grind (arith, nat_tests, ends.1); names = rw (lower_name c lower, both.1) refl }

abbrev split_by : List ℕ → List ℕ → List ℕ → Reading (List ℕ)
split_by text name rest = cond (is_unquoted name) (checked_atom text name rest) (fault_at text)

split_again : (text name rest : List ℕ) → is_unquoted name ≡ true → IsAtomText name → split_by text name rest ≡ Ok (name, after_blanks rest)
split_again text name rest bare lawful = rw (bare, atom_text_is name lawful) refl

name_again : (name rest : List ℕ) → list_all is_name name ≡ true → is_unquoted name ≡ true → IsAtomText name → IsApart rest → unquoted_atom_at (name ++ rest) ≡ Ok (name, after_blanks rest)
name_again name rest names bare lawful apart =
    let len : name_len (name ++ rest) ≡ length name = name_len_again name rest names apart in
    let front : take (name_len (name ++ rest)) (name ++ rest) ≡ name = ap (λ (n : ℕ). take n (name ++ rest)) len ∙ take-append_seam name rest in
    let behind : drop (name_len (name ++ rest)) (name ++ rest) ≡ rest = ap (λ (n : ℕ). drop n (name ++ rest)) len ∙ drop-append_seam name rest in
    let split : unquoted_atom_at (name ++ rest) ≡ split_by (name ++ rest) name rest = λ i. split_by (name ++ rest) (front i) (behind i) in
    split ∙ split_again (name ++ rest) name rest bare lawful

bare_again : (c : ℕ) (cs rest : List ℕ) → is_unquoted (c ∷ cs) ≡ true → IsAtomText (c ∷ cs) → IsApart rest → atom_at ((c ∷ cs) ++ rest) ≡ Ok (c ∷ cs, after_blanks rest)
unfolding atom_at
bare_again c cs rest bare lawful apart =
    let b = bare_is c cs bare in
    let low : 97 ≤ c = b.low in
    rw (differ c 39 (λ e. omega (arith, e))) (name_again (c ∷ cs) rest b.names bare lawful apart)

quoted_name_again : (name rest : List ℕ) → IsAtomText name → atom_at (39 ∷ (flat_map escaped name ++ 39 ∷ rest)) ≡ Ok (name, after_blanks rest)
unfolding atom_at
quoted_name_again name rest lawful =
    let long : length name < length (flat_map escaped name ++ 39 ∷ rest) = omega (arith, length-append (flat_map escaped name) (39 ∷ rest), quoted_long name) in
    rw (quoted_again name (length (flat_map escaped name ++ 39 ∷ rest)) rest long, atom_text_is name lawful) refl

pub atom_again : (name rest : List ℕ) → IsAtomText name → IsApart rest → atom_at (atom_text name ++ rest) ≡ Ok (name, after_blanks rest)
atom_again name rest lawful apart = by name (is_unquoted name) refl lawful
  where
    by : (name : List ℕ) (bare : Bool) → is_unquoted name ≡ bare → IsAtomText name → atom_at (cond bare name (39 ∷ (flat_map escaped name ++ 39 ∷ [])) ++ rest) ≡ Ok (name, after_blanks rest)
    by [] true e lawful = absurd cc
    by (c ∷ cs) true e lawful = bare_again c cs rest e lawful apart
    by name false e lawful = ap (λ (t : List ℕ). atom_at (39 ∷ t)) (append_assoc (flat_map escaped name) (39 ∷ []) rest) ∙ quoted_name_again name rest lawful
