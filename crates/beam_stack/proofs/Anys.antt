-- Whether an item of a list passes one of several tests.
use Rattle.std.proofs.Common.{◌≡◌, Bool, true, false, ◌||◌, List, [], ◌∷◌, refl, sym, ap, ◌∙◌}
use Rattle.std.specs.List.{list_any}

pub none : {X : Type 0} (xs : List X) → false ≡ list_any (λ x. false) xs
none [] = refl
none (x ∷ xs) = none xs

regrouped : (a b c d : Bool) → ((a || b) || (c || d)) ≡ ((a || c) || (b || d))
regrouped true b c d = refl
regrouped false true true d = refl
regrouped false true false d = refl
regrouped false false true d = refl
regrouped false false false d = refl

pub either : {X : Type 0} (p q : X → Bool) (xs : List X) → list_any (λ x. p x || q x) xs ≡ (list_any p xs || list_any q xs)
either p q [] = refl
either p q (x ∷ xs) = ap (λ b. (p x || q x) || b) (either p q xs) ∙ regrouped (p x) (q x) (list_any p xs) (list_any q xs)

-- each item tried with each test, or each test with each item
pub swapped : {X Y : Type 0} (p : Y → X → Bool) (xs : List X) (ys : List Y) → list_any (λ x. list_any (λ y. p y x) ys) xs ≡ list_any (λ y. list_any (p y) xs) ys
swapped p [] ys = none ys
swapped p (x ∷ xs) ys =
    ap (λ b. list_any (λ y. p y x) ys || b) (swapped p xs ys) ∙ sym (either (λ y. p y x) (λ y. list_any (p y) xs) ys)

pub alike : {X : Type 0} (p q : X → Bool) (xs : List X) → ((x : X) → p x ≡ q x) → list_any p xs ≡ list_any q xs
alike p q [] same = refl
alike p q (x ∷ xs) same = ap (λ b. b || list_any p xs) (same x) ∙ ap (λ b. q x || b) (alike p q xs same)
