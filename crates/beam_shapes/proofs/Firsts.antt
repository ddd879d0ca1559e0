-- The first tag of a tree, by its halves.
use Rattle.std.proofs.Common.{◌≡◌, ◌≢◌, ℕ, zero, suc, ◌-◌, ◌^◌, ◌<◌, ◌≤◌, Bool, true, if◌then◌else◌, List, [], ◌∷◌, ◌++◌, length, replicate, Option, Some, None, refl, ap, sym, ◌∙◌, subst, ⊎_elim, arith, slice_get, is_some, unwrap_or, ne_eqb}
use Rattle.std.proofs.lemmas.Bool.{cases_eq}
use Rattle.beam_shapes.specs.declared.trees.Halves.{Halves}
use Rattle.beam_model.specs.Prelude.{first_in}
use Rattle.beam_shapes.specs.Prelude.{Parts, no_halves, part_of, halves_of, tags_of, IsTree, IsTidy}
use Rattle.beam_shapes.proofs.Grown.{tags_none, tags_step, tree_step}

none_in : (n : ℕ) → first_in (replicate n None) ≡ None
none_in zero = refl
none_in (suc n) = none_in n

pub first_none : (p : Parts) (h tree : ℕ) → tree ≡ 0 → None ≡ first_in (tags_of p h tree)
first_none p h tree none = sym (ap (λ n. first_in (tags_of p h n)) none ∙ (ap first_in (tags_none p h) ∙ none_in (2 ^ h)))

one_in : (o : Option ℕ) → o ≡ first_in (o ∷ [])
one_in None = refl
one_in (Some n) = refl

pub first_leaf : (p : Parts) (h tree : ℕ) → h ≡ 0 → part_of p.labels tree ≡ first_in (tags_of p h tree)
unfolding tags_of
first_leaf p h tree none = let P : ℕ → Type 0 = λ n. part_of p.labels tree ≡ first_in (tags_of p n tree) in subst P (sym none) (one_in (part_of p.labels tree))

first_later : (l r : List (Option ℕ)) → None ≡ first_in l → first_in r ≡ first_in (l ++ r)
first_later [] r none = refl
first_later (None ∷ l) r none = first_later l r none
first_later (Some n ∷ l) r none = absurd (cc none)

first_soon : (l r : List (Option ℕ)) → is_some (first_in l) ≡ true → first_in l ≡ first_in (l ++ r)
first_soon [] r some = absurd (cc some)
first_soon (None ∷ l) r some = first_soon l r some
first_soon (Some n ∷ l) r some = refl

some_later : (l r : List (Option ℕ)) → is_some (first_in r) ≡ true → is_some (first_in (l ++ r)) ≡ true
some_later [] r some = some
some_later (None ∷ l) r some = some_later l r some
some_later (Some n ∷ l) r some = refl

pub there : {X : Type 0} (xs : List X) (i : ℕ) → i < length xs → (x : X) × (slice_get xs i ≡ Some x)
there [] i few = absurd (omega (arith, few))
there (x ∷ xs) zero few = (x, refl)
there (x ∷ xs) (suc i) few = there xs i (omega (arith, few))

pub part_there : {X : Type 0} (xs : List X) (tree : ℕ) → tree ≢ 0 → tree ≤ length xs → (x : X) × (part_of xs tree ≡ Some x) × (slice_get xs (tree - 1) ≡ Some x)
part_there xs tree some within =
    let t = there xs (tree - 1) (omega (arith, some, within)) in
    (t.0, ap (λ (b : Bool). if b then None else slice_get xs (tree - 1)) (ne_eqb tree 0 some) ∙ t.1, t.1)

-- a tree that isn't 0 has a tag
pub some_first : (p : Parts) (h tree : ℕ) → IsTidy p → IsTree p h tree → tree ≢ 0 → is_some (first_in (tags_of p h tree)) ≡ true
unfolding tags_of IsTree
some_first p zero tree tidy here some =
    let q = part_there p.labels tree some here in
    ap (λ o. is_some (first_in (o ∷ []))) q.1
some_first p (suc h) tree tidy here some =
    let both = halves_of p.halves tree in
    let q = part_there p.halves tree some here.0 in
    let is : both ≡ q.0 = ap (λ (o : Option Halves). unwrap_or o no_halves) q.1 in
    ⊎_elim
    (λ (l : both.left ≡ 0).
    ⊎_elim
    (λ (r : both.right ≡ 0).
    let none : q.0 ≡ no_halves = sym is ∙ (ap (λ n. record { left = n; right = both.right }) l ∙ ap (λ n. record { left = 0; right = n }) r) in
    absurd (tidy.2 (tree - 1) (q.2 ∙ ap (λ (b : Halves). Some b) none)))
    (λ (r : both.right ≡ 0 → ⊥). some_later (tags_of p h both.left) (tags_of p h both.right) (some_first p h both.right tidy here.2 r))
    (cases_eq both.right 0))
    (λ (l : both.left ≡ 0 → ⊥).
    let s = some_first p h both.left tidy here.1 l in
    ap is_some (sym (first_soon (tags_of p h both.left) (tags_of p h both.right) s)) ∙ s)
    (cases_eq both.left 0)

pub first_right : (p : Parts) (h tree : ℕ) → 0 < h → (halves_of p.halves tree).left ≡ 0 → first_in (tags_of p (h - 1) (halves_of p.halves tree).right) ≡ first_in (tags_of p h tree)
first_right p h tree up none =
    let q = halves_of p.halves tree in
    first_later (tags_of p (h - 1) q.left) (tags_of p (h - 1) q.right) (first_none p (h - 1) q.left none) ∙ ap first_in (sym (tags_step p h tree up))

pub first_left : (p : Parts) (h tree : ℕ) → 0 < h → IsTidy p → IsTree p h tree → (halves_of p.halves tree).left ≢ 0 → first_in (tags_of p (h - 1) (halves_of p.halves tree).left) ≡ first_in (tags_of p h tree)
first_left p h tree up tidy here some =
    let q = halves_of p.halves tree in let parts = tree_step p h tree up here in
    first_soon (tags_of p (h - 1) q.left) (tags_of p (h - 1) q.right) (some_first p (h - 1) q.left tidy parts.1 some) ∙ ap first_in (sym (tags_step p h tree up))
