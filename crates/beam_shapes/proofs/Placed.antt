-- The tags at the places of a tree, by its halves.
use Rattle.std.proofs.Common.{◌≡◌, ◌≢◌, ℕ, ◌+◌, ◌-◌, ◌^◌, ◌<◌, ◌≤◌, List, [], ◌∷◌, ◌++◌, length, set, drop, replicate, get_or, Option, None, refl, ap, sym, ◌∙◌, subst, append_assoc, arith, drop-drop, drop_at}
use Rattle.std.proofs.lemmas.List.{set-append_left, set-append_right, get_or_append_left, get_or-append_right, replicate-append-replicate, drop-append-le}
use Rattle.beam_shapes.specs.declared.trees.Halves.{Halves}
use Rattle.beam_shapes.specs.Prelude.{Parts, part_of, halves_of, tags_of, IsTree, Grows}
use Rattle.beam_shapes.proofs.Grown.{tags_stay, tree_stays, tags_none, tree_none, tags_long, tags_step, tree_step, tree_made}

pub tag_left : (p : Parts) (h tree at : ℕ) → 0 < h → at < 2 ^ (h - 1) → get_or (tags_of p (h - 1) (halves_of p.halves tree).left) at None ≡ get_or (tags_of p h tree) at None
tag_left p h tree at up few =
    let q = halves_of p.halves tree in let l = tags_of p (h - 1) q.left in let r = tags_of p (h - 1) q.right in
    let long = tags_long p (h - 1) q.left in
    sym (ap (λ ts. get_or ts at None) (tags_step p h tree up) ∙ get_or_append_left l r None at (omega (arith, few, long)))

pub tag_right : (p : Parts) (h tree at : ℕ) → 0 < h → 2 ^ (h - 1) ≤ at → get_or (tags_of p (h - 1) (halves_of p.halves tree).right) (at - 2 ^ (h - 1)) None ≡ get_or (tags_of p h tree) at None
tag_right p h tree at up far =
    let q = halves_of p.halves tree in let l = tags_of p (h - 1) q.left in let r = tags_of p (h - 1) q.right in
    sym (ap (λ ts. get_or ts at None) (tags_step p h tree up) ∙ get_or-append_right l r (2 ^ (h - 1)) at None (tags_long p (h - 1) q.left) far)

pub tag_leaf : (p : Parts) (h tree at : ℕ) → h ≡ 0 → at < 2 ^ h → part_of p.labels tree ≡ get_or (tags_of p h tree) at None
unfolding tags_of
tag_leaf p h tree at none few =
    let first : at ≡ 0 = let e : 2 ^ h ≡ 1 = ap (λ n. 2 ^ n) none in omega (arith, few, e) in
    sym (ap (λ n. get_or (tags_of p n tree) at None) none ∙ ap (λ n. get_or (part_of p.labels tree ∷ []) n None) first)

pub put_leaf : (old new : Parts) (h tree t at : ℕ) (tag : Option ℕ) → h ≡ 0 → at < 2 ^ h → part_of new.labels t ≡ tag → t ≤ length new.labels
    → IsTree new h t × (tags_of new h t ≡ set (tags_of old h tree) at tag)
unfolding tags_of IsTree
put_leaf old new h tree t at tag none few is there =
    let first : at ≡ 0 = let e : 2 ^ h ≡ 1 = ap (λ n. 2 ^ n) none in omega (arith, few, e) in
    let P : ℕ → Type 0 = λ n. IsTree new n t × (tags_of new n t ≡ set (tags_of old n tree) at tag) in
    subst P (sym none) (there, ap (λ o. o ∷ []) is ∙ sym (ap (λ n. set (part_of old.labels tree ∷ []) n tag) first))

module _ (old mid new : Parts) (h tree t : ℕ) (up : 0 < h) (here : IsTree old h tree) (one : Grows old mid) (two : Grows mid new) where
  pub put_left : (left at : ℕ) (tag : Option ℕ) → at < 2 ^ (h - 1) → IsTree mid (h - 1) left → tags_of mid (h - 1) left ≡ set (tags_of old (h - 1) (halves_of old.halves tree).left) at tag
      → halves_of new.halves t ≡ record { left = left; right = (halves_of old.halves tree).right } → t ≤ length new.halves → IsTree new h t × (tags_of new h t ≡ set (tags_of old h tree) at tag)
  put_left left at tag few there put is within =
      let q = halves_of old.halves tree in let parts = tree_step old h tree up here in
      let r_mid = tree_stays old mid one (h - 1) q.right parts.2 in
      let l_new = tags_stay mid new two (h - 1) left there in
      let r_new = tags_stay mid new two (h - 1) q.right r_mid ∙ tags_stay old mid one (h - 1) q.right parts.2 in
      let P : Halves → Type 0 = λ b. IsTree new (h - 1) b.left × IsTree new (h - 1) b.right in
      let both : P (halves_of new.halves t) = subst P (sym is) (tree_stays mid new two (h - 1) left there, tree_stays mid new two (h - 1) q.right r_mid) in
      let long = tags_long old (h - 1) q.left in (
        tree_made new h t up (within, both.0, both.1),
        tags_step new h t up
            ∙ (ap (λ (b : Halves). tags_of new (h - 1) b.left ++ tags_of new (h - 1) b.right) is
            ∙ (ap (λ ts. ts ++ tags_of new (h - 1) q.right) (l_new ∙ put)
            ∙ (ap (λ ts. set (tags_of old (h - 1) q.left) at tag ++ ts) r_new
            ∙ (sym (set-append_left (tags_of old (h - 1) q.left) (tags_of old (h - 1) q.right) at tag (omega (arith, few, long))) ∙ ap (λ ts. set ts at tag) (sym (tags_step old h tree up)))))),
      )

  pub put_right : (right at : ℕ) (tag : Option ℕ) → 2 ^ (h - 1) ≤ at → IsTree mid (h - 1) right → tags_of mid (h - 1) right ≡ set (tags_of old (h - 1) (halves_of old.halves tree).right) (at - 2 ^ (h - 1)) tag
      → halves_of new.halves t ≡ record { left = (halves_of old.halves tree).left; right = right } → t ≤ length new.halves → IsTree new h t × (tags_of new h t ≡ set (tags_of old h tree) at tag)
  put_right right at tag far there put is within =
      let q = halves_of old.halves tree in let parts = tree_step old h tree up here in
      let l_mid = tree_stays old mid one (h - 1) q.left parts.1 in
      let r_new = tags_stay mid new two (h - 1) right there in
      let l_new = tags_stay mid new two (h - 1) q.left l_mid ∙ tags_stay old mid one (h - 1) q.left parts.1 in
      let P : Halves → Type 0 = λ b. IsTree new (h - 1) b.left × IsTree new (h - 1) b.right in
      let both : P (halves_of new.halves t) = subst P (sym is) (tree_stays mid new two (h - 1) q.left l_mid, tree_stays mid new two (h - 1) right there) in (
        tree_made new h t up (within, both.0, both.1),
        tags_step new h t up
            ∙ (ap (λ (b : Halves). tags_of new (h - 1) b.left ++ tags_of new (h - 1) b.right) is
            ∙ (ap (λ ts. ts ++ tags_of new (h - 1) right) l_new
            ∙ (ap (λ ts. tags_of old (h - 1) q.left ++ ts) (r_new ∙ put)
            ∙ (sym (set-append_right (tags_of old (h - 1) q.left) (tags_of old (h - 1) q.right) (2 ^ (h - 1)) at tag (tags_long old (h - 1) q.left) far) ∙ ap (λ ts. set ts at tag) (sym (tags_step old h tree up)))))),
      )

  pub clear_left : (left count : ℕ) → count < 2 ^ (h - 1) → IsTree mid (h - 1) left → tags_of mid (h - 1) left ≡ replicate count None ++ drop count (tags_of old (h - 1) (halves_of old.halves tree).left)
      → halves_of new.halves t ≡ record { left = left; right = (halves_of old.halves tree).right } → t ≤ length new.halves → IsTree new h t × (tags_of new h t ≡ replicate count None ++ drop count (tags_of old h tree))
  clear_left left count few there cleared is within =
      let q = halves_of old.halves tree in let parts = tree_step old h tree up here in
      let r_mid = tree_stays old mid one (h - 1) q.right parts.2 in
      let l_new = tags_stay mid new two (h - 1) left there in
      let r_new = tags_stay mid new two (h - 1) q.right r_mid ∙ tags_stay old mid one (h - 1) q.right parts.2 in
      let P : Halves → Type 0 = λ b. IsTree new (h - 1) b.left × IsTree new (h - 1) b.right in
      let both : P (halves_of new.halves t) = subst P (sym is) (tree_stays mid new two (h - 1) left there, tree_stays mid new two (h - 1) q.right r_mid) in
      let l = tags_of old (h - 1) q.left in let r = tags_of old (h - 1) q.right in
      let long = tags_long old (h - 1) q.left in (
        tree_made new h t up (within, both.0, both.1),
        tags_step new h t up
            ∙ (ap (λ (b : Halves). tags_of new (h - 1) b.left ++ tags_of new (h - 1) b.right) is
            ∙ (ap (λ ts. ts ++ tags_of new (h - 1) q.right) (l_new ∙ cleared)
            ∙ (ap (λ ts. (replicate count None ++ drop count l) ++ ts) r_new
            ∙ (append_assoc (replicate count None) (drop count l) r
            ∙ (ap (λ ts. replicate count None ++ ts) (sym (drop-append-le count l r (omega (arith, few, long)))) ∙ ap (λ ts. replicate count None ++ drop count ts) (sym (tags_step old h tree up))))))),
      )

  pub clear_right : (right count : ℕ) → 2 ^ (h - 1) ≤ count → IsTree mid (h - 1) right
      → tags_of mid (h - 1) right ≡ replicate (count - 2 ^ (h - 1)) None ++ drop (count - 2 ^ (h - 1)) (tags_of old (h - 1) (halves_of old.halves tree).right)
      → halves_of new.halves t ≡ record { left = 0; right = right } → t ≤ length new.halves → IsTree new h t × (tags_of new h t ≡ replicate count None ++ drop count (tags_of old h tree))
  clear_right right count far there cleared is within =
      let q = halves_of old.halves tree in
      let half = 2 ^ (h - 1) in let k = count - half in
      let r_new = tags_stay mid new two (h - 1) right there in
      let P : Halves → Type 0 = λ b. IsTree new (h - 1) b.left × IsTree new (h - 1) b.right in
      let both : P (halves_of new.halves t) = subst P (sym is) (tree_none new (h - 1), tree_stays mid new two (h - 1) right there) in
      let l = tags_of old (h - 1) q.left in let r = tags_of old (h - 1) q.right in
      let sum : half + k ≡ count = omega (arith, far) in (
        tree_made new h t up (within, both.0, both.1),
        tags_step new h t up
            ∙ (ap (λ (b : Halves). tags_of new (h - 1) b.left ++ tags_of new (h - 1) b.right) is
            ∙ (ap (λ ts. ts ++ tags_of new (h - 1) right) (tags_none new (h - 1))
            ∙ (ap (λ ts. replicate half None ++ ts) (r_new ∙ cleared)
            ∙ (sym (append_assoc (replicate half None) (replicate k None) (drop k r))
            ∙ (ap (λ ts. ts ++ drop k r) (replicate-append-replicate half k None)
            ∙ (ap (λ ts. replicate (half + k) None ++ drop k ts) (sym (drop_at l r half (tags_long old (h - 1) q.left)))
            ∙ (ap (λ ts. replicate (half + k) None ++ ts) (drop-drop k half (l ++ r))
            ∙ (ap (λ n. replicate n None ++ drop n (l ++ r)) sum ∙ ap (λ ts. replicate count None ++ drop count ts) (sym (tags_step old h tree up)))))))))),
      )

pub clear_none : (ts : List (Option ℕ)) (count : ℕ) → count ≡ 0 → ts ≡ replicate count None ++ drop count ts
clear_none ts count none = let P : ℕ → Type 0 = λ n. ts ≡ replicate n None ++ drop n ts in subst P (sym none) refl

pub clear_leaf : (p : Parts) (h tree count : ℕ) → h ≡ 0 → count ≢ 0 → count ≤ 2 ^ h → tags_of p h 0 ≡ replicate count None ++ drop count (tags_of p h tree)
unfolding tags_of
clear_leaf p h tree count none some few =
    let one : 1 ≡ count = let e : 2 ^ h ≡ 1 = ap (λ n. 2 ^ n) none in omega (arith, few, e, some) in
    let P : ℕ → Type 0 = λ n. tags_of p n 0 ≡ replicate count None ++ drop count (tags_of p n tree) in
    let Q : ℕ → Type 0 = λ n. tags_of p 0 0 ≡ replicate n None ++ drop n (tags_of p 0 tree) in
    subst P (sym none) (subst Q one refl)
