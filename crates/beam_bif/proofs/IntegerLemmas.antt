-- Lemmas on integers in their range: quotients, and shifts by many places.
use Rattle.std.proofs.Common.{◌≡◌, ℕ, suc, zero, ◌*◌, ◌^◌, ◌/◌, ◌<◌, ◌≤◌, ◌==◌, min, if◌then◌else◌, ℤ, pos, negsuc, ◌≤ℤ◌, ◌<ℤ◌, neg_ℤ, ◌*ℤ◌, ◌⊎◌, inl, inr, arith, ap, refl, ◌∙◌, Result, Err, lit<, to_z, of_z, w64, FitsSigned, int_div, unsigned_abs}
use Rattle.std.proofs.Math.Nat.{div-eq_of_lt, pow-le-pow_right, div-le_self}
use Rattle.std.proofs.lemmas.Int.{ints, quot_is, to_z-of_z}
use Rattle.std.proofs.lemmas.Bool.Decides.{nat_tests}
use Rattle.std.specs.Int.{int_shr}
use lib.Signed.{mag_shr}
use Rattle.beam_model.specs.Prelude.{limited}
use Rattle.beam_model.specs.declared.exception.Fault.{Fault}
use Rattle.beam_model.specs.declared.exception.Fault.TheVariants.{SystemLimit, Badarith}
use Rattle.beam_term.specs.Prelude.{IsSmall, TermValue}

-- an integer outside the range is refused with system_limit
pub limited_beyond : (n : ℤ) → (pos (2 ^ 59) ≤ℤ n) ⊎ (n <ℤ neg_ℤ (pos (2 ^ 59))) → Err SystemLimit ≡ limited n
limited_beyond n h = grind (arith, ints)

-- a positive number shifted by many places
large : (a k : ℕ) → 60 ≤ k → 2 ^ 60 ≤ suc a * 2 ^ k
large a k g = let p : 2 ^ 60 ≤ 2 ^ k = pow-le-pow_right (lit< tt) g in grind arith

pub limited_far : (m : ℤ) (k : ℕ) → (of_z w64 m ≡ 0 → ⊥) → 60 ≤ k → Err SystemLimit ≡ limited (m *ℤ pos (2 ^ k))
limited_far (pos zero) k h g = absurd (h refl)
limited_far (pos (suc a)) k h g = limited_beyond (pos (suc a * 2 ^ k)) (inl (omega (arith, ints, large a k g)))
limited_far (negsuc a) k h g = limited_beyond (neg_ℤ (pos (suc a * 2 ^ k))) (inr (omega (arith, ints, large a k g)))

-- a number in the range over a power past it
gone : (a k : ℕ) → a < 2 ^ 59 → 59 ≤ k → a / 2 ^ k ≡ 0
gone a k h g = let p : 2 ^ 59 ≤ 2 ^ k = pow-le-pow_right (lit< tt) g in div-eq_of_lt (omega arith)

same_gone : (a k : ℕ) → a < 2 ^ 59 → a / 2 ^ min k 63 ≡ a / 2 ^ k
same_gone a k h = grind (arith, gone)

pub shr_far : (m : ℤ) (k : ℕ) → IsSmall m → int_shr m (min k 63) ≡ int_shr m k
shr_far (pos a) k h = ap pos (same_gone a k (omega (arith, ints)))
shr_far (negsuc a) k h = ap negsuc (same_gone a k (omega (arith, ints)))

fits_neg : (x : ℕ) → x < 2 ^ 63 → FitsSigned w64 (neg_ℤ (pos x))
fits_neg zero h = record { sfits = lit< tt }
fits_neg (suc x) h = record { sfits = omega arith }

pub quot_small : (m n : ℤ) → IsSmall m → FitsSigned w64 (int_div m n)
quot_small (pos a) (pos b) h = record { sfits = let p : a < 2 ^ 59 = omega (arith, ints) in omega (arith, div-le_self a b) }
quot_small (pos a) (negsuc b) h = fits_neg (a / suc b) (let p : a < 2 ^ 59 = omega (arith, ints) in omega (arith, div-le_self a (suc b)))
quot_small (negsuc a) (pos b) h = fits_neg (suc a / b) (let p : a < 2 ^ 59 = omega (arith, ints) in omega (arith, div-le_self (suc a) b))
quot_small (negsuc a) (negsuc b) h = record { sfits = let p : a < 2 ^ 59 = omega (arith, ints) in omega (arith, div-le_self (suc a) (suc b)) }

unless_zero : (n : ℕ) (x y r : Result TermValue Fault) → 0 < n → r ≡ y → r ≡ (if n == 0 then x else y)
unless_zero n x y r h e = grind (arith, nat_tests)

-- the code's quotient is that of the definition
pub quotient_is : (m n : ℤ) (r : Result TermValue Fault) → FitsSigned w64 m → FitsSigned w64 n → IsSmall m → (of_z w64 n ≡ 0 → ⊥)
    → r ≡ limited (to_z w64 (of_z w64 (int_div (to_z w64 (of_z w64 m)) (to_z w64 (of_z w64 n)))))
    → r ≡ (if unsigned_abs n == 0 then Err Badarith else limited (int_div m n))
quotient_is m (pos zero) r f g h k e = absurd (k refl)
quotient_is m (pos (suc b)) r f g h k e = unless_zero (suc b) _ _ r (omega arith) (e ∙ ap limited (quot_is w64 m (pos (suc b)) f g (quot_small m (pos (suc b)) h)))
quotient_is m (negsuc b) r f g h k e = unless_zero (suc b) _ _ r (omega arith) (e ∙ ap limited (quot_is w64 m (negsuc b) f g (quot_small m (negsuc b) h)))

-- the code's shift to the right is that of the definition
pub shift_is : (m : ℤ) (k j : ℕ) (r : Result TermValue Fault) → FitsSigned w64 m → IsSmall m → j ≡ min k 63
    → r ≡ limited (to_z w64 (of_z w64 (int_shr (to_z w64 (of_z w64 m)) j))) → r ≡ limited (int_shr m k)
shift_is m k j r f h e g =
    let fits : FitsSigned w64 (int_shr m j) = record { sfits = omega (arith, mag_shr m (2 ^ j), f.sfits) } in
    g ∙ ap (λ z. limited (to_z w64 (of_z w64 (int_shr z j)))) (to_z-of_z w64 m f) ∙ ap limited (to_z-of_z w64 (int_shr m j) fits)
    ∙ ap (λ i. limited (int_shr m i)) e ∙ ap limited (shr_far m k h)
