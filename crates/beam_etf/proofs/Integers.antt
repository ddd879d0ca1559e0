-- The spelling of an integer, by where it lies.
use Rattle.std.proofs.Common.{◌≡◌, ◌^◌, true, false, [], ◌∷◌, refl, arith, ℤ, pos, neg_ℤ, ◌≤ℤ◌, ◌<ℤ◌, unsigned_abs}
use Rattle.std.specs.Int.{to_be_bytes, cast_unsigned, w32}
use Rattle.std.specs.Int.Signed.{lt_z, le_z}
use Rattle.std.proofs.lemmas.Int.{ints}
use Rattle.beam_model.specs.Prelude.{written_integer, written_big, sign_of}

le_true : (a b : ℤ) → a ≤ℤ b → le_z a b ≡ true
le_true a b h = grind (arith, ints)

le_false : (a b : ℤ) → b <ℤ a → le_z a b ≡ false
le_false a b h = grind (arith, ints)

lt_true : (a b : ℤ) → a <ℤ b → lt_z a b ≡ true
lt_true a b h = grind (arith, ints)

lt_false : (a b : ℤ) → b ≤ℤ a → lt_z a b ≡ false
lt_false a b h = grind (arith, ints)

pub small_is : (z : ℤ) → pos 0 ≤ℤ z → z <ℤ pos 256 → written_integer z ≡ 97 ∷ unsigned_abs z ∷ []
unfolding written_integer
small_is z h k = rw (le_true (pos 0) z h, lt_true z (pos 256) k) refl

pub word_below : (z : ℤ) → neg_ℤ (pos (2 ^ 31)) ≤ℤ z → z <ℤ pos 0 → written_integer z ≡ 98 ∷ to_be_bytes w32 (cast_unsigned w32 z)
unfolding written_integer
word_below z h k =
    let up : z <ℤ pos (2 ^ 31) = omega (arith, ints) in
    rw (le_false (pos 0) z k, le_true (neg_ℤ (pos (2 ^ 31))) z h, lt_true z (pos (2 ^ 31)) up) refl

pub word_above : (z : ℤ) → pos 256 ≤ℤ z → z <ℤ pos (2 ^ 31) → written_integer z ≡ 98 ∷ to_be_bytes w32 (cast_unsigned w32 z)
unfolding written_integer
word_above z h k =
    let low : neg_ℤ (pos (2 ^ 31)) ≤ℤ z = omega (arith, ints) in
    let some : pos 0 ≤ℤ z = omega (arith, ints) in
    rw (le_true (pos 0) z some, lt_false z (pos 256) h, le_true (neg_ℤ (pos (2 ^ 31))) z low, lt_true z (pos (2 ^ 31)) k) refl

pub big_below : (z : ℤ) → z <ℤ neg_ℤ (pos (2 ^ 31)) → written_integer z ≡ written_big (sign_of z) (unsigned_abs z)
unfolding written_integer
big_below z h =
    let low : z <ℤ pos 0 = omega (arith, ints) in
    rw (le_false (pos 0) z low, le_false (neg_ℤ (pos (2 ^ 31))) z h) refl

pub big_above : (z : ℤ) → pos (2 ^ 31) ≤ℤ z → written_integer z ≡ written_big (sign_of z) (unsigned_abs z)
unfolding written_integer
big_above z h =
    let some : pos 0 ≤ℤ z = omega (arith, ints) in
    let far : pos 256 ≤ℤ z = omega (arith, ints) in
    let low : neg_ℤ (pos (2 ^ 31)) ≤ℤ z = omega (arith, ints) in
    rw (le_true (pos 0) z some, lt_false z (pos 256) far, le_true (neg_ℤ (pos (2 ^ 31))) z low, lt_false z (pos (2 ^ 31)) h) refl
