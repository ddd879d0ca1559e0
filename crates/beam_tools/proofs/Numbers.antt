-- What `get_one` reads of an argument that is a number.
use Rattle.std.proofs.Common.{arith, ◌^◌, ◌<◌, ◌≤◌, ◌≡◌, ap, ℕ, suc, Bool, true, false, List, Option, Some, None, refl, if◌then◌else◌, Ok, Err, Result, option_and_then}
use Rattle.std.specs.Str.Parse.{ParsesUnsigned, digits_value, without_leading_plus}
use Rattle.clap.specs.ValueTests.{is_unsigned_in}
use Rattle.clap.specs.Words.{Accepts, ReadsOne}
use Rattle.clap.specs.declared.builder.value_parser.ValueParser.TheVariants as vp
use Rattle.clap.proofs.ValueTestLemmas.{Accepts-accepts, accepts-Accepts}
use Rattle.beam_tools.specs.Prelude.{number_up_to}

-- the greatest number of n bits, where n is at most 64
abbrev pub IsGreatest : ℕ → ℕ → Type 0
IsGreatest bits greatest = (2 ^ bits ≡ suc greatest) × (greatest ≤ 18446744073709551615)

-- a text that was read as a number, or refused as one, is what the definition makes of it
pub number_read : (bits greatest : ℕ) → IsGreatest bits greatest → (E : Type 0) (G : List ℕ → Result ℕ E → Type 0) (t : List ℕ) (o : Option ℕ)
    → ReadsOne G t o → ((u : List ℕ) (x : Result ℕ E) → G u x → ParsesUnsigned bits 10 u x) → o ≡ number_up_to greatest t
number_read bits greatest is E G t (Some v) read only =
    let parsed = only t (Ok v) read in
    let all : 2 ^ bits ≡ suc greatest = is.0 in
    let fits : greatest ≤ 18446744073709551615 = is.1 in
    let small : digits_value 10 (without_leading_plus t) < 2 ^ bits = parsed.0.1 in
    let most : digits_value 10 (without_leading_plus t) ≤ greatest = omega arith in
    let below : digits_value 10 (without_leading_plus t) < 2 ^ 64 = omega arith in
    let passes : is_unsigned_in 0 greatest t ≡ true = Accepts-accepts false (vp.Unsigned 0 greatest) t (parsed.0.0, below, omega arith, most) in
    rw passes (ap Some parsed.1)
number_read bits greatest is E G t None read only = go (is_unsigned_in 0 greatest t) refl
  where
    go : (b : Bool) → is_unsigned_in 0 greatest t ≡ b → None ≡ (if b then Some (digits_value 10 (without_leading_plus t)) else None)
    go false e = refl
    go true e =
        let in_range : Accepts false (vp.Unsigned 0 greatest) t = accepts-Accepts false (vp.Unsigned 0 greatest) t e in
        let all : 2 ^ bits ≡ suc greatest = is.0 in
        let most = in_range.3 in
        absurd (only t (Err read.0) read.1 (in_range.0, omega arith))

-- a text that may be absent, read as a number, is what the definition makes of it
pub option_read : (bits greatest : ℕ) → IsGreatest bits greatest → (E : Type 0) (G : List ℕ → Result ℕ E → Type 0) (text : Option (List ℕ)) (o : Option ℕ)
    → (text ≡ None → o ≡ None) → ((t : List ℕ) → text ≡ Some t → ReadsOne G t o)
    → ((u : List ℕ) (x : Result ℕ E) → G u x → ParsesUnsigned bits 10 u x) → o ≡ option_and_then (number_up_to greatest) text
option_read bits greatest is E G None o none value only = none refl
option_read bits greatest is E G (Some t) o none value only = number_read bits greatest is E G t o (value t refl) only
