-- A key that is added to a list once.
use Rattle.std.proofs.Common.{◌≡◌, ℕ, zero, suc, ◌+◌, ◌-◌, ◌<◌, ◌==◌, ◌&&◌, Bool, true, false, if◌then◌else◌, List, [], ◌∷◌, ◌++◌, length, Some, inl, inr, refl, ap, sym, ◌∙◌, ⊎_elim, arith, slice_get, ◌||◌, eqb-true, eq-eqb}
use Rattle.std.specs.List.{list_any}
use Rattle.std.proofs.lemmas.Bool.{cases_Bool, both_ways, and_parts}
use Rattle.std.proofs.lemmas.Option.{same_Some}
use Rattle.indexmap.specs.IndexSet.{insert_key}
use Rattle.beam_shapes.specs.declared.trees.Halves.{Halves}
use Rattle.beam_shapes.specs.Prelude.{IsInterned}

any_at : {X : Type 0} (f : X → Bool) (xs : List X) (i : ℕ) (x : X) → slice_get xs i ≡ Some x → f x ≡ true → list_any f xs ≡ true
any_at f [] i x at holds = absurd (cc at)
any_at f (y ∷ ys) zero x at holds = ap (λ (b : Bool). b || list_any f ys) (ap f (same_Some y x at) ∙ holds)
any_at f (y ∷ ys) (suc i) x at holds = or_right (f y) (any_at f ys i x at holds) where
  or_right : (a : Bool) {b : Bool} → b ≡ true → (a || b) ≡ true
  or_right true e = refl
  or_right false e = e

pub interned : {X : Type 0} (eq : X → X → Bool) → ((x y : X) → eq x y ≡ true → x ≡ y) → ((x : X) → eq x x ≡ true) → (old new : List X) (x : X) (at : ℕ)
    → new ≡ insert_key eq old x → (k : X) × (slice_get new at ≡ Some k) × (eq x k ≡ true) → at < length new → IsInterned x old new (at + 1)
interned {X} eq sound same old new x at is stored within =
    let there : at + 1 - 1 ≡ at = omega arith in
    let found : slice_get new at ≡ Some x = stored.1 ∙ ap (λ (y : X). Some y) (sym (sound x stored.0 stored.2)) in (
      omega arith,
      ap (slice_get new) there ∙ found,
      omega (arith, within),
      ⊎_elim
          (λ (e : list_any (eq x) old ≡ true). inl (is ∙ ap (λ (b : Bool). if b then old else old ++ x ∷ []) e))
          (λ (e : list_any (eq x) old ≡ false). inr (
            is ∙ ap (λ (b : Bool). if b then old else old ++ x ∷ []) e,
            λ i at'. both_ways (list_any (eq x) old) e (any_at (eq x) old i x at' (same x)),
          ))
          (cases_Bool (list_any (eq x) old)),
    )

abbrev pub same_halves : Halves → Halves → Bool
same_halves a b = (a.left == b.left) && (a.right == b.right)

pub halves_sound : (a b : Halves) → same_halves a b ≡ true → a ≡ b
halves_sound a b e =
    let p = and_parts (a.left == b.left) (a.right == b.right) e in
    let l : a.left ≡ b.left = eqb-true a.left b.left p.0 in
    let r : a.right ≡ b.right = eqb-true a.right b.right p.1 in
    ap (λ n. record { left = n; right = a.right }) l ∙ ap (λ n. record { left = b.left; right = n }) r

pub halves_same : (a : Halves) → same_halves a a ≡ true
halves_same a = ap (λ (x : Bool). x && (a.right == a.right)) (eq-eqb a.left a.left refl) ∙ eq-eqb a.right a.right refl
