-- The keys of monitors: numbers in a key, keys among others, and keys that rise.
use Rattle.std.proofs.Common.{◌≡◌, ℕ, ◌+◌, ◌<◌, ◌≤◌, ◌==◌, Bool, true, false, cond, nat_lt, List, [], ◌∷◌, ◌++◌, refl, sym, ap, subst, ◌∙◌, arith, true≢false, filter, ◌||◌, eqb-true}
use Rattle.std.specs.declared.cmp.Ordering.TheVariants.{Less, Equal, Greater}
use Rattle.std.specs.Ordering.{nat_cmp, is_eq}
use Rattle.std.proofs.lemmas.Bool.Decides.{nat_tests}
use Rattle.std.specs.List.{list_any, AllByRecursion}
use Rattle.std.specs.List.Sorted.{IsStrictlySortedBy}
use Rattle.std.specs.BTreeMap.{is_at}
use Rattle.std.proofs.lemmas.Bool.{or_left, or_right}
use Rattle.beam_lemmas.proofs.Tests.{itself}
use Rattle.beam_state.specs.Prelude.{monitor_key, monitored_in, receiver_in, reference_in, has_key, is_key_of}

-- ---- numbers in a key

pub receiver_is : (w r n : ℕ) → r < 4294967296 → n < 4294967296 → receiver_in (monitor_key w r n) ≡ r
receiver_is w r n h k = omega (arith, h, k)

pub reference_is : (w r n : ℕ) → n < 4294967296 → reference_in (monitor_key w r n) ≡ n
reference_is w r n k = omega (arith, k)

pub monitored_is : (w r n : ℕ) → w < 4294967296 → r < 4294967296 → n < 4294967296 → monitored_in (monitor_key w r n) ≡ w
monitored_is w r n g h k = omega (arith, g, h, k)

pub key_is : (w k : ℕ) → is_key_of w k ≡ true → k ≡ monitor_key w (receiver_in k) (reference_in k)
key_is w k h = grind (arith, nat_tests)

pub of_monitored : (w r n : ℕ) → r < 4294967296 → n < 4294967296 → is_key_of w (monitor_key w r n) ≡ true
of_monitored w r n h k = grind (arith, nat_tests)

-- ---- tests

pub either : {C : Type 0} (a b : Bool) → (a || b) ≡ true → (a ≡ true → C) → (b ≡ true → C) → C
either true b e f g = f refl
either false b e f g = g e

pub alike : (a b : Bool) → (a ≡ true → b ≡ true) → (b ≡ true → a ≡ true) → a ≡ b
alike true b f g = sym (f refl)
alike false true f g = g refl
alike false false f g = refl

-- ---- a key among others

same_key : (n k : ℕ) → is_eq (nat_cmp n k) ≡ (n == k)
same_key n k = go (nat_lt n k) (n == k) refl refl
  where
    go : (a b : Bool) → nat_lt n k ≡ a → (n == k) ≡ b → is_eq (cond a Less (cond b Equal Greater)) ≡ b
    go true false h i = refl
    go true true h i = absurd (grind (arith, nat_tests))
    go false true h i = refl
    go false false h i = refl

pub found_at : (k : ℕ) (ks : List ℕ) → list_any (is_at (nat_cmp k)) ks ≡ has_key ks k
found_at k [] = refl
found_at k (x ∷ ks) = ap (λ b. b || list_any (is_at (nat_cmp k)) ks) (same_key k x) ∙ ap (λ b. (k == x) || b) (found_at k ks)

-- a key was put among others
pub inserted : (old new : List ℕ) (x : ℕ) → ((k : ℕ) → list_any (is_at (nat_cmp k)) new ≡ cond (is_at (nat_cmp x) k) true (list_any (is_at (nat_cmp k)) old)) → (k : ℕ) → has_key old k ≡ true → has_key new k ≡ true
inserted old new x u k h =
    sym (found_at k new) ∙ (u k ∙ elim (is_at (nat_cmp x) k) as (λ b. cond b true (list_any (is_at (nat_cmp k)) old) ≡ true) [ true ↦ refl | false ↦ found_at k old ∙ h ])

pub in_filter : (f : ℕ → Bool) (ks : List ℕ) (k : ℕ) → has_key ks k ≡ true → f k ≡ true → has_key (filter f ks) k ≡ true
in_filter f [] k h g = h
in_filter f (x ∷ ks) k h g = either (k == x) (has_key ks k) h here (λ e. there (in_filter f ks k e g))
  where
    here : (k == x) ≡ true → has_key (cond (f x) (x ∷ filter f ks) (filter f ks)) k ≡ true
    here e =
        let kept : true ≡ f x = sym g ∙ ap f (eqb-true k x e) in
        subst (λ b. has_key (cond b (x ∷ filter f ks) (filter f ks)) k ≡ true) kept (or_left (k == x) (has_key (filter f ks) k) e)

    there : has_key (filter f ks) k ≡ true → has_key (cond (f x) (x ∷ filter f ks) (filter f ks)) k ≡ true
    there rest =
        elim (f x) as (λ b. has_key (cond b (x ∷ filter f ks) (filter f ks)) k ≡ true) [ true ↦ or_right (k == x) (has_key (filter f ks) k) rest | false ↦ rest ]

pub from_filter : (f : ℕ → Bool) (ks : List ℕ) (k : ℕ) → has_key (filter f ks) k ≡ true → (has_key ks k ≡ true) × (f k ≡ true)
from_filter f [] k h = cc
from_filter f (x ∷ ks) k h = by (λ e. from_filter f ks k e) (f x) refl h
  where
    by : (has_key (filter f ks) k ≡ true → (has_key ks k ≡ true) × (f k ≡ true)) → (b : Bool) → f x ≡ b → has_key (cond b (x ∷ filter f ks) (filter f ks)) k ≡ true
        → (((k == x) || has_key ks k) ≡ true) × (f k ≡ true)
    by rest false is g = (or_right (k == x) (has_key ks k) (rest g).0, (rest g).1)
    by rest true is g =
        either (k == x) (has_key (filter f ks) k) g
        (λ e. (or_left (k == x) (has_key ks k) e, ap f (eqb-true k x e) ∙ is))
        (λ e. (or_right (k == x) (has_key ks k) (rest e).0, (rest e).1))

-- ---- keys that rise

-- each number is greater than the one before; the first is at least the lower bound, and all are below the upper bound
abbrev pub Asc : ℕ → ℕ → List ℕ → Type 0
Asc low high [] = low ≤ high
Asc low high (x ∷ xs) = (low ≤ x) × Asc (x + 1) high xs

pub lower : (low lowest high : ℕ) (xs : List ℕ) → lowest ≤ low → Asc low high xs → Asc lowest high xs
lower low lowest high [] l h = omega (arith, l, h)
lower low lowest high (x ∷ xs) l h = (omega (arith, l, h.0), h.1)

pub asc_more : (low mid high : ℕ) (xs ys : List ℕ) → Asc low mid xs → Asc mid high ys → Asc low high (xs ++ ys)
asc_more low mid high [] ys h k = lower mid low high ys h k
asc_more low mid high (x ∷ xs) ys h k = (h.0, asc_more (x + 1) mid high xs ys h.1 k)

pub filter_asc : (f : ℕ → Bool) (low high : ℕ) (xs : List ℕ) → Asc low high xs → Asc low high (filter f xs)
filter_asc f low high [] h = h
filter_asc f low high (x ∷ xs) h =
    let rest : Asc (x + 1) high (filter f xs) = filter_asc f (x + 1) high xs h.1 in
    let le : low ≤ x + 1 = omega (arith, h.0) in
    elim (f x) as (λ b. Asc low high (cond b (x ∷ filter f xs) (filter f xs))) [ true ↦ (h.0, rest) | false ↦ lower (x + 1) low high (filter f xs) le rest ]

below : (k low high : ℕ) (xs : List ℕ) → k < low → Asc low high xs → has_key xs k ≡ false
below k low high [] l h = refl
below k low high (x ∷ xs) l h =
    let other : (k == x) ≡ false = let less : k < x = omega (arith, l, h.0) in grind (arith, nat_tests) in
    let less : k < x + 1 = omega (arith, l, h.0) in
    ap (λ b. b || has_key xs k) other ∙ below k (x + 1) high xs less h.1

less_than : (x y : ℕ) → nat_cmp x y ≡ Less → x < y
less_than x y e = go (nat_lt x y) (x == y) refl e
  where
    go : (a b : Bool) → nat_lt x y ≡ a → cond a Less (cond b Equal Greater) ≡ Less → x < y
    go true b h i = grind (arith, nat_tests)
    go false true h i = cc
    go false false h i = cc

all_above : (x : ℕ) (ys : List ℕ) → AllByRecursion (λ y. nat_cmp x y ≡ Less) ys → AllByRecursion (λ y. x < y) ys
all_above x [] h = tt
all_above x (y ∷ ys) h = (less_than x y h.0, all_above x ys h.1)

from_sorted : (low : ℕ) (xs : List ℕ) → AllByRecursion (λ x. low < x + 1) xs → IsStrictlySortedBy nat_cmp xs → (high : ℕ) × Asc low high xs
unfolding IsStrictlySortedBy
from_sorted low [] a h = (low, omega arith)
from_sorted low (x ∷ xs) a h =
    let rest = from_sorted (x + 1) xs (after xs (all_above x xs h.0)) h.1 in
    (rest.0, (omega (arith, a.0), rest.1))
  where
    after : (ys : List ℕ) → AllByRecursion (λ y. x < y) ys → AllByRecursion (λ y. x + 1 < y + 1) ys
    after [] g = tt
    after (y ∷ ys) g = (omega (arith, g.0), after ys g.1)

pub sorted_asc : (xs : List ℕ) → IsStrictlySortedBy nat_cmp xs → (high : ℕ) × Asc 0 high xs
sorted_asc xs h = from_sorted 0 xs (all xs) h
  where
    all : (ys : List ℕ) → AllByRecursion (λ y. 0 < y + 1) ys
    all [] = tt
    all (y ∷ ys) = (omega arith, all ys)

-- two rising lists that have the same keys are equal
pub ext : (low a b : ℕ) (xs ys : List ℕ) → Asc low a xs → Asc low b ys → ((k : ℕ) → has_key xs k ≡ has_key ys k) → xs ≡ ys
ext low a b [] [] g h e = refl
ext low a b [] (y ∷ ys) g h e = absurd (true≢false (sym (or_left (y == y) (has_key ys y) (itself y)) ∙ sym (e y)))
ext low a b (x ∷ xs) [] g h e = absurd (true≢false (sym (or_left (x == x) (has_key xs x) (itself x)) ∙ e x))
ext low a b (x ∷ xs) (y ∷ ys) g h e = by (λ asc e. ext (x + 1) a b xs ys g.1 asc e) (nat_lt x y) (nat_lt y x) refl refl
  where
    by : (Asc (x + 1) b ys → ((k : ℕ) → has_key xs k ≡ has_key ys k) → xs ≡ ys) → (s t : Bool) → nat_lt x y ≡ s → nat_lt y x ≡ t → x ∷ xs ≡ y ∷ ys
    by tails true t is are =
        let less : x < y = grind (arith, nat_tests) in
        let le : y ≤ y = omega arith in
        absurd (true≢false (sym (or_left (x == x) (has_key xs x) (itself x)) ∙ (e x ∙ below x y b (y ∷ ys) less (le, h.1))))
    by tails false true is are =
        let less : y < x = grind (arith, nat_tests) in
        let le : x ≤ x = omega arith in
        absurd (true≢false (sym (or_left (y == y) (has_key ys y) (itself y)) ∙ (sym (e y) ∙ below y x a (x ∷ xs) less (le, g.1))))
    by tails false false is are =
        let one : x ≡ y = grind (arith, nat_tests) in
        let asc : Asc (x + 1) b ys = subst (λ n. Asc (n + 1) b ys) (sym one) h.1 in
        ap (λ n. n ∷ xs) one ∙ ap (λ l. y ∷ l) (tails asc (rest one asc))
      where
        rest : x ≡ y → Asc (x + 1) b ys → (k : ℕ) → has_key xs k ≡ has_key ys k
        rest one asc k = at (k == x) refl
          where
            at : (c : Bool) → (k == x) ≡ c → has_key xs k ≡ has_key ys k
            at true is =
                let less : k < x + 1 = grind (arith, nat_tests) in
                below k (x + 1) a xs less g.1 ∙ sym (below k (x + 1) b ys less asc)
            at false is =
                let other : (k == y) ≡ false = ap (λ n. k == n) (sym one) ∙ is in
                sym (ap (λ b. b || has_key xs k) is) ∙ (e k ∙ ap (λ b. b || has_key ys k) other)
