-- What is known of a choice from its value, by cases on its test; and two tests whose value is known.
use Rattle.std.proofs.Common.{◌≡◌, ℕ, ◌==◌, ◌&&◌, ◌⊎◌, inl, inr, Bool, true, false, cond, refl, eq-eqb}

-- the two outcomes of a test
pub chosen : {A : Type 0} (b : Bool) (x y z : A) → cond b x y ≡ z → ((b ≡ true) × (x ≡ z)) ⊎ ((b ≡ false) × (y ≡ z))
chosen true x y z e = inl (refl, e)
chosen false x y z e = inr (refl, e)

pub and_false : (b : Bool) → (b && false) ≡ false
and_false true = refl
and_false false = refl

pub itself : (n : ℕ) → (n == n) ≡ true
itself n = eq-eqb n n refl
