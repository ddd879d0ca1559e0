-- Trees stay as they are while parts are added.
use Rattle.std.proofs.Common.{◌≡◌, ℕ, zero, suc, ◌+◌, ◌-◌, ◌^◌, ◌<◌, ◌≤◌, ◌==◌, Bool, true, if◌then◌else◌, List, [], ◌∷◌, ◌++◌, length, replicate, None, refl, ap, sym, ◌∙◌, subst, ⊎_elim, append_assoc, append-nil, arith, slice_get, unwrap_or, eq-eqb, length-append}
use Rattle.std.proofs.lemmas.Bool.{cases_eq}
use Rattle.std.proofs.lemmas.List.{replicate-append-replicate}
use Rattle.beam_shapes.specs.declared.trees.Halves.{Halves}
use Rattle.beam_shapes.specs.Prelude.{Parts, no_halves, part_of, halves_of, tags_of, IsTree, Grows}

pub grows_none : (p : Parts) → Grows p p
grows_none p = (([], sym (append-nil p.labels)), ([], sym (append-nil p.halves)))

pub grows_both : (a b c : Parts) → Grows a b → Grows b c → Grows a c
grows_both a b c one two = (
  (one.0.0 ++ two.0.0, two.0.1 ∙ (ap (λ xs. xs ++ two.0.0) one.0.1 ∙ append_assoc a.labels one.0.0 two.0.0)),
  (one.1.0 ++ two.1.0, two.1.1 ∙ (ap (λ xs. xs ++ two.1.0) one.1.1 ∙ append_assoc a.halves one.1.0 two.1.0)),
)

slice_left : {X : Type 0} (xs ys : List X) (i : ℕ) → i < length xs → slice_get (xs ++ ys) i ≡ slice_get xs i
slice_left [] ys i few = absurd (omega (arith, few))
slice_left (x ∷ xs) ys zero few = refl
slice_left (x ∷ xs) ys (suc i) few = slice_left xs ys i (omega (arith, few))

part_left : {X : Type 0} (xs ys : List X) (tree : ℕ) → tree ≤ length xs → part_of (xs ++ ys) tree ≡ part_of xs tree
part_left xs ys tree few =
    ⊎_elim
    (λ (e : tree ≡ 0).
    let z : (tree == 0) ≡ true = eq-eqb tree 0 e in
    ap (λ (b : Bool). if b then None else slice_get (xs ++ ys) (tree - 1)) z ∙ sym (ap (λ (b : Bool). if b then None else slice_get xs (tree - 1)) z))
    (λ (e : tree ≡ 0 → ⊥).
    let less : tree - 1 < length xs = omega (arith, few, e) in
    ap (λ o. if tree == 0 then None else o) (slice_left xs ys (tree - 1) less))
    (cases_eq tree 0)

module _ (old new : Parts) (grown : Grows old new) where
  label_stays : (tree : ℕ) → tree ≤ length old.labels → part_of new.labels tree ≡ part_of old.labels tree
  label_stays tree few = ap (λ xs. part_of xs tree) grown.0.1 ∙ part_left old.labels grown.0.0 tree few

  halves_stay : (tree : ℕ) → tree ≤ length old.halves → halves_of new.halves tree ≡ halves_of old.halves tree
  halves_stay tree few = ap (λ o. unwrap_or o no_halves) (ap (λ xs. part_of xs tree) grown.1.1 ∙ part_left old.halves grown.1.0 tree few)

  more_labels : length old.labels ≤ length new.labels
  more_labels = let a = ap length grown.0.1 in let b = length-append old.labels grown.0.0 in omega (arith, a, b)

  more_halves : length old.halves ≤ length new.halves
  more_halves = let a = ap length grown.1.1 in let b = length-append old.halves grown.1.0 in omega (arith, a, b)

  pub tags_stay : (h tree : ℕ) → IsTree old h tree → tags_of new h tree ≡ tags_of old h tree
  unfolding tags_of IsTree
  tags_stay zero tree here = ap (λ o. o ∷ []) (label_stays tree here)
  tags_stay (suc h) tree here =
      let s = halves_stay tree here.0 in
      ap (λ (q : Halves). tags_of new h q.left ++ tags_of new h q.right) s
      ∙ (ap (λ ts. ts ++ tags_of new h (halves_of old.halves tree).right) (tags_stay h (halves_of old.halves tree).left here.1)
      ∙ ap (λ ts. tags_of old h (halves_of old.halves tree).left ++ ts) (tags_stay h (halves_of old.halves tree).right here.2))

  pub tree_stays : (h tree : ℕ) → IsTree old h tree → IsTree new h tree
  unfolding IsTree
  tree_stays zero tree here = let m = more_labels in omega (arith, m, here)
  tree_stays (suc h) tree here =
      let s = sym (halves_stay tree here.0) in let m = more_halves in (
        omega (arith, m, here.0),
        subst (λ (q : Halves). IsTree new h q.left) s (tree_stays h (halves_of old.halves tree).left here.1),
        subst (λ (q : Halves). IsTree new h q.right) s (tree_stays h (halves_of old.halves tree).right here.2),
      )

pub tree_none : (p : Parts) (h : ℕ) → IsTree p h 0
unfolding IsTree
tree_none p zero = omega arith
tree_none p (suc h) = (omega arith, tree_none p h, tree_none p h)

pub tags_none : (p : Parts) (h : ℕ) → tags_of p h 0 ≡ replicate (2 ^ h) None
unfolding tags_of
tags_none p zero = refl
tags_none p (suc h) =
    let twice : 2 ^ h + 2 ^ h ≡ 2 ^ suc h = omega arith in
    ap (λ ts. ts ++ tags_of p h 0) (tags_none p h)
    ∙ (ap (λ ts. replicate (2 ^ h) None ++ ts) (tags_none p h)
    ∙ (replicate-append-replicate (2 ^ h) (2 ^ h) None ∙ ap (λ n. replicate n None) twice))

pub tags_long : (p : Parts) (h tree : ℕ) → length (tags_of p h tree) ≡ 2 ^ h
unfolding tags_of
tags_long p zero tree = refl
tags_long p (suc h) tree =
    let q = halves_of p.halves tree in
    let a = length-append (tags_of p h q.left) (tags_of p h q.right) in let l = tags_long p h q.left in let r = tags_long p h q.right in
    let twice : 2 ^ h + 2 ^ h ≡ 2 ^ suc h = omega arith in omega (arith, a, l, r, twice)

-- a height from 1 on is the successor of the one below
pred_suc : (h : ℕ) → 0 < h → suc (h - 1) ≡ h
pred_suc h up = omega (arith, up)

pub tags_step : (p : Parts) (h tree : ℕ) → 0 < h → tags_of p h tree ≡ tags_of p (h - 1) (halves_of p.halves tree).left ++ tags_of p (h - 1) (halves_of p.halves tree).right
unfolding tags_of
tags_step p h tree up = ap (λ n. tags_of p n tree) (sym (pred_suc h up))

pub tree_step : (p : Parts) (h tree : ℕ) → 0 < h → IsTree p h tree → (tree ≤ length p.halves) × IsTree p (h - 1) (halves_of p.halves tree).left × IsTree p (h - 1) (halves_of p.halves tree).right
unfolding IsTree
tree_step p h tree up here = subst (λ n. IsTree p n tree) (sym (pred_suc h up)) here

pub tree_made : (p : Parts) (h tree : ℕ) → 0 < h → (tree ≤ length p.halves) × IsTree p (h - 1) (halves_of p.halves tree).left × IsTree p (h - 1) (halves_of p.halves tree).right → IsTree p h tree
unfolding IsTree
tree_made p h tree up here = subst (λ n. IsTree p n tree) (pred_suc h up) here

pub twice_half : (h : ℕ) → 0 < h → 2 ^ (h - 1) + 2 ^ (h - 1) ≡ 2 ^ h
twice_half h up = ap (λ n. n) (omega arith) ∙ ap (λ n. 2 ^ n) (pred_suc h up)
