-- Numbers whose lowest byte stands first.
use Rattle.std.proofs.Common.{◌≡◌, ℕ, zero, suc, ◌*◌, ◌^◌, ◌<◌, ◌≤◌, List, [], ◌∷◌, drop, arith}
use Rattle.beam_model.specs.Prelude.{little}

-- the higher bytes, where at least one stands below them
pub little_rise : (digits : List ℕ) (i : ℕ) → 0 < i → 256 * little (drop i digits) ≤ little digits
little_rise digits zero h = absurd (omega arith)
little_rise [] (suc i) h = omega arith
little_rise (digit ∷ digits) (suc zero) h = omega arith
little_rise (digit ∷ digits) (suc (suc i)) h = omega (arith, little_rise digits (suc i) (omega arith))

pub too_many : (digits : List ℕ) (i value : ℕ) → 0 < i → value ≡ little (drop i digits) → 2 ^ 56 ≤ value → 2 ^ 64 ≤ little digits
too_many digits i value h e k = omega (arith, little_rise digits i h)
