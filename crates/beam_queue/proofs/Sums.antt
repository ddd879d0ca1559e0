-- Sums over lists that grow, shrink or change at an index.
use Rattle.std.proofs.Common.{◌≡◌, ℕ, zero, suc, ◌+◌, ◌<◌, ◌≤◌, List, [], ◌∷◌, ◌++◌, length, map, take, set, get_or, refl, ap, ◌∙◌, arith}
use Rattle.beam_queue.specs.Prelude.{total}

pub total-append : {X : Type 0} (f : X → ℕ) (xs ys : List X) → total f (xs ++ ys) ≡ total f xs + total f ys
total-append f [] ys = omega arith
total-append f (x ∷ xs) ys = let r = total-append f xs ys in omega (arith, r)

pub total_snoc : {X : Type 0} (f : X → ℕ) (xs : List X) (x : X) → total f (xs ++ x ∷ []) ≡ total f xs + f x
total_snoc f xs x = let r = total-append f xs (x ∷ []) in omega (arith, r)

-- an element of a list is set
pub total_set : {X : Type 0} (f : X → ℕ) (xs : List X) (i : ℕ) (y d : X) → i < length xs → total f (set xs i y) + f (get_or xs i d) ≡ total f xs + f y
total_set f [] i y d few = absurd (omega (arith, few))
total_set f (x ∷ xs) zero y d few = omega arith
total_set f (x ∷ xs) (suc i) y d few = let r = total_set f xs i y d (omega (arith, few)) in omega (arith, r)

pub map_set : {X Y : Type 0} (f : X → Y) (xs : List X) (i : ℕ) (y d : X) → i < length xs → f y ≡ f (get_or xs i d) → map f (set xs i y) ≡ map f xs
map_set f [] i y d few is = refl
map_set f (x ∷ xs) zero y d few is = ap (λ z. z ∷ map f xs) is
map_set f (x ∷ xs) (suc i) y d few is = ap (λ zs. f x ∷ zs) (map_set f xs i y d (omega (arith, few)) is)

-- the first elements of a list, one more
pub total_more : {X : Type 0} (f : X → ℕ) (xs : List X) (i : ℕ) (d : X) → i < length xs → total f (take (i + 1) xs) ≡ total f (take i xs) + f (get_or xs i d)
total_more f [] i d few = absurd (omega (arith, few))
total_more f (x ∷ xs) zero d few = omega arith
total_more f (x ∷ xs) (suc i) d few =
    let on : suc i + 1 ≡ suc (i + 1) = omega arith in
    let r = total_more f xs i d (omega (arith, few)) in
    let first : total f (take (suc (i + 1)) (x ∷ xs)) ≡ total f (take (suc i) (x ∷ xs)) + f (get_or (x ∷ xs) (suc i) d) = omega (arith, r) in
    ap (λ n. total f (take n (x ∷ xs))) on ∙ first

-- a sum whose terms are at most those of another is at most the other
pub total_le : {X : Type 0} (f g : X → ℕ) (xs : List X) → ((x : X) → f x ≤ g x) → total f xs ≤ total g xs
total_le f g [] less = omega arith
total_le f g (x ∷ xs) less = let h = less x in let r = total_le f g xs less in omega (arith, h, r)

pub total_at : {X : Type 0} (f : X → ℕ) (xs : List X) (i : ℕ) (d : X) → i < length xs → f (get_or xs i d) ≤ total f xs
total_at f [] i d few = absurd (omega (arith, few))
total_at f (x ∷ xs) zero d few = omega arith
total_at f (x ∷ xs) (suc i) d few = let r = total_at f xs i d (omega (arith, few)) in omega (arith, r)

-- a sum of 0 so far, with 0 at the next index, is 0
pub none_more : {X : Type 0} (f : X → ℕ) (xs : List X) (i : ℕ) (x : X) → i < length xs → x ≡ get_or xs i x → f x ≡ 0 → total f (take i xs) ≡ 0 → total f (take (i + 1) xs) ≡ 0
none_more f xs i x few at none before = let m = total_more f xs i x few in let a = ap f at in omega (arith, m, a, none, before)

pub none_there : {X : Type 0} (f : X → ℕ) (xs : List X) (i : ℕ) (x : X) → i < length xs → x ≡ get_or xs i x → 0 < f x → total f xs ≡ 0 → ⊥
none_there f xs i x few at some none = let m = total_at f xs i x few in let a = ap f at in omega (arith, m, a, some, none)
