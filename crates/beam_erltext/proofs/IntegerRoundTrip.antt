-- An integer that is printed is read again.
use Rattle.std.proofs.Common.{◌≡◌, ℕ, suc, ◌+◌, ◌-◌, ◌*◌, ◌/◌, ◌%◌, ◌^◌, ◌<◌, ◌≤◌, Bool, true, false, ℤ, pos, negsuc, List, [], ◌∷◌, ◌++◌, Ok, refl, sym, ap, ◌∙◌, append_assoc, arith, nat_le, nat_lt, ◌&&◌, ◌||◌, ◌==◌}
use Rattle.std.specs.Fmt.{signed_decimal, decimal}
use Rattle.std.proofs.lemmas.Fmt.{decimal_by_steps}
use Rattle.std.proofs.lemmas.Int.{ints}
use Rattle.std.proofs.lemmas.Bool.Decides.{nat_tests}
use Rattle.beam_model.specs.Prelude.{is_lower, is_digit, is_name, after_blanks, digits_after, digits_at, integer_at}
use Rattle.beam_term.specs.Prelude.{IsSmall}
use Rattle.beam_erltext.proofs.Texts.{differ}

-- no name and no number goes on here
abbrev pub IsApart : List ℕ → Type 0
IsApart [] = Unit {0}
IsApart (c ∷ cs) = is_name c ≡ false

pub le_true : (a b : ℕ) → a ≤ b → nat_le a b ≡ true
le_true a b h = grind (arith, nat_tests)

pub lt_true : (a b : ℕ) → a < b → nat_lt a b ≡ true
lt_true a b h = grind (arith, nat_tests)

pub digit_is : (c : ℕ) → 48 ≤ c → c ≤ 57 → is_digit c ≡ true
digit_is c l h = rw (le_true 48 c l, le_true c 57 h) refl

second_false : (a b x y : Bool) → ((a || b) || x) || y ≡ false → b ≡ false
second_false true b x y e = absurd cc
second_false false true x y e = absurd cc
second_false false false x y e = refl

pub not_digit : (c : ℕ) → is_name c ≡ false → is_digit c ≡ false
not_digit c e = second_false (is_lower c) (is_digit c) (nat_le 64 c && nat_le c 90) (c == 95) e

digits_step : (m d : ℕ) (rest : List ℕ) → d < 10 → 10 * m + d ≤ 2 ^ 59 → digits_after m ((48 + d) ∷ rest) ≡ digits_after (10 * m + d) rest
unfolding digits_after
digits_step m d rest h small =
    let value : 10 * m + (48 + d - 48) ≡ 10 * m + d = omega arith in
    rw (digit_is (48 + d) (omega arith) (omega arith), value, le_true (10 * m + d) (2 ^ 59) small) refl

digits_end : (n : ℕ) (rest : List ℕ) → IsApart rest → digits_after n rest ≡ Ok (n, rest)
unfolding digits_after
digits_end n [] h = refl
digits_end n (c ∷ cs) h = rw (not_digit c h) refl

digits_decimal : (n : ℕ) → n < 2 ^ 64 → (rest : List ℕ) → n ≤ 2 ^ 59 → digits_after 0 (decimal n ++ rest) ≡ digits_after n rest
digits_decimal n lt = decimal_by_steps (λ n ds. (rest : List ℕ) → n ≤ 2 ^ 59 → digits_after 0 (ds ++ rest) ≡ digits_after n rest) one more n lt
  where
    one : (n : ℕ) → n < 10 → (rest : List ℕ) → n ≤ 2 ^ 59 → digits_after 0 ((48 + n) ∷ [] ++ rest) ≡ digits_after n rest
    one n h rest small = digits_step 0 n rest h (omega arith) ∙ ap (λ (k : ℕ). digits_after k rest) (omega arith)

    more : (n : ℕ) (ds : List ℕ) → 10 ≤ n → ((rest : List ℕ) → n / 10 ≤ 2 ^ 59 → digits_after 0 (ds ++ rest) ≡ digits_after (n / 10) rest)
        → (rest : List ℕ) → n ≤ 2 ^ 59 → digits_after 0 ((ds ++ ((48 + n % 10) ∷ [])) ++ rest) ≡ digits_after n rest
    more n ds h again rest small =
        let whole : 10 * (n / 10) + n % 10 ≡ n = omega arith in
        ap (digits_after 0) (append_assoc ds ((48 + n % 10) ∷ []) rest) ∙ again ((48 + n % 10) ∷ rest) (omega arith)
        ∙ digits_step (n / 10) (n % 10) rest (omega arith) (omega arith) ∙ ap (λ (k : ℕ). digits_after k rest) whole

-- the first digit of a number
pub record BeginsWithDigit (text : List ℕ) : Type 0 where
  pub first : ℕ
  pub others : List ℕ
  pub parts : text ≡ first ∷ others
  pub low : 48 ≤ first
  pub high : first ≤ 57

pub decimal_begins : (n : ℕ) → n < 2 ^ 64 → BeginsWithDigit (decimal n)
decimal_begins n lt = decimal_by_steps (λ n ds. BeginsWithDigit ds) one more n lt
  where
    one : (n : ℕ) → n < 10 → BeginsWithDigit ((48 + n) ∷ [])
    one n h = record { first = 48 + n; others = []; parts = refl; low = omega arith; high = omega arith }

    more : (n : ℕ) (ds : List ℕ) → 10 ≤ n → BeginsWithDigit ds → BeginsWithDigit (ds ++ ((48 + n % 10) ∷ []))
    more n ds h b = record { first = b.first; others = b.others ++ ((48 + n % 10) ∷ []); parts = ap (λ (t : List ℕ). t ++ ((48 + n % 10) ∷ [])) b.parts; low = b.low; high = b.high }

digits_again : (n : ℕ) (rest : List ℕ) → n ≤ 2 ^ 59 → IsApart rest → digits_at (decimal n ++ rest) ≡ Ok (n, rest)
unfolding digits_at
digits_again n rest small apart =
    let b = decimal_begins n (omega arith) in
    let parts : decimal n ++ rest ≡ b.first ∷ (b.others ++ rest) = ap (λ (t : List ℕ). t ++ rest) b.parts in
    let read : digits_after 0 (b.first ∷ (b.others ++ rest)) ≡ Ok (n, rest) = sym (ap (digits_after 0) parts) ∙ digits_decimal n (omega arith) rest small ∙ digits_end n rest apart in
    ap digits_at parts ∙ rw (digit_is b.first b.low b.high) read

pub integer_again : (z : ℤ) (rest : List ℕ) → IsSmall z → IsApart rest → integer_at (signed_decimal z ++ rest) ≡ Ok (z, after_blanks rest)
unfolding integer_at
integer_again (pos n) rest small apart =
    let lt : n < 2 ^ 59 = omega (arith, ints) in
    let b = decimal_begins n (omega arith) in
    let parts : decimal n ++ rest ≡ b.first ∷ (b.others ++ rest) = ap (λ (t : List ℕ). t ++ rest) b.parts in
    let read : digits_at (b.first ∷ (b.others ++ rest)) ≡ Ok (n, rest) = sym (ap digits_at parts) ∙ digits_again n rest (omega arith) apart in
    let low : 48 ≤ b.first = b.low in
    ap integer_at parts ∙ rw (differ b.first 45 (λ e. omega (arith, e)), read, lt_true n (2 ^ 59) lt) refl
integer_again (negsuc n) rest small apart =
    let le : suc n ≤ 2 ^ 59 = omega (arith, ints) in
    rw (digits_again (suc n) rest le apart) refl
