-- The mode that a text writes, from what `from_str_radix` reads.
use Rattle.std.proofs.Common.{arith, le-leb, leb-true, lt-ltb, ltb-true, ◌==◌, ◌&&◌, ◌^◌, ◌<◌, ◌≤◌, ◌≡◌, ◌∙◌, ap, cond, drop, length, nat_le, nat_lt, refl, slice_index, subst, sym, ℕ, Bool, true, false, List, [], ◌∷◌, Some, None, if◌then◌else◌}
use Rattle.std.specs.Char.{digit_value}
use Rattle.std.specs.List.{list_all}
use Rattle.std.specs.Str.Parse.{AllDigits, IsNumeral, digits_value, without_leading_plus}
use Rattle.clap.proofs.WalkLemmas.{both}
use Rattle.beam_tools.specs.Prelude.{is_octal, mode_of}

digits_from : (ds : List ℕ) → list_all (λ c. nat_lt (digit_value c) 8) ds ≡ true → AllDigits 8 ds
digits_from [] e = tt
digits_from (d ∷ ds) e =
    let parts = both _ _ e in
    (ltb-true _ _ parts.0, digits_from ds parts.1)

digits_back : (ds : List ℕ) → AllDigits 8 ds → list_all (λ c. nat_lt (digit_value c) 8) ds ≡ true
digits_back [] h = refl
digits_back (d ∷ ds) h = rw (lt-ltb (digit_value d) 8 h.0) (digits_back ds h.1)

numeral_from : (text : List ℕ) → is_octal text ≡ true → IsNumeral 8 text
numeral_from text e =
    let parts = both _ _ e in
    (ltb-true _ _ (both _ _ parts.0).0, digits_from text parts.1)

numeral_back : (text : List ℕ) → IsNumeral 8 text → length text ≤ 4 → is_octal text ≡ true
numeral_back text h short = rw (lt-ltb 0 (length text) h.0, le-leb (length text) 4 short, digits_back text h.1) refl

-- a text that begins with no plus is read whole
whole : (text : List ℕ) → (slice_index text 0 == 43) ≡ false → without_leading_plus text ≡ text
whole text no_plus = ap (λ (b : Bool). drop (cond b 1 0) text) no_plus

-- a number of at most four digits, up to 777, that was read from a text
pub mode_read : (text : List ℕ) (mode : ℕ) → (slice_index text 0 == 43) ≡ false → length text ≤ 4 → IsNumeral 8 (without_leading_plus text)
    → mode ≡ digits_value 8 (without_leading_plus text) → mode ≤ 511 → Some mode ≡ mode_of text
mode_read text mode no_plus short numeral is most =
    let same : without_leading_plus text ≡ text = whole text no_plus in
    let value : mode ≡ digits_value 8 text = is ∙ ap (digits_value 8) same in
    let below : digits_value 8 text ≤ 511 = omega arith in
    rw (numeral_back text (subst (IsNumeral 8) same numeral) short, le-leb (digits_value 8 text) 511 below) (ap Some value)

-- a text from which no number of 32 bits was read
pub no_mode_read : (text : List ℕ) → (slice_index text 0 == 43) ≡ false
    → ¬ (IsNumeral 8 (without_leading_plus text) × (digits_value 8 (without_leading_plus text) < 2 ^ 32)) → None ≡ mode_of text
no_mode_read text no_plus unread = go (is_octal text && nat_le (digits_value 8 text) 511) refl
  where
    go : (b : Bool) → (is_octal text && nat_le (digits_value 8 text) 511) ≡ b → None ≡ (if b then Some (digits_value 8 text) else None)
    go false e = refl
    go true e =
        let parts = both _ _ e in
        let numeral : IsNumeral 8 text = numeral_from text parts.0 in
        let most : digits_value 8 text ≤ 511 = leb-true _ _ parts.1 in
        let below : digits_value 8 text < 2 ^ 32 = omega arith in
        let P : List ℕ → Type 0 = λ ds. IsNumeral 8 ds × (digits_value 8 ds < 2 ^ 32) in
        absurd (unread (subst P (sym (whole text no_plus)) (numeral, below)))
