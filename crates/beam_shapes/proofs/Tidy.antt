-- Parts stay tidy.
use Rattle.std.proofs.Common.{◌≡◌, ◌≢◌, ℕ, zero, suc, ◌-◌, ◌<◌, ◌==◌, ◌⊎◌, Bool, false, if◌then◌else◌, List, [], ◌∷◌, ◌++◌, length, Some, None, inl, inr, refl, ap, sym, ◌∙◌, subst, ⊎_elim, append-nil, arith, slice_get, ne_eqb}
use Rattle.std.proofs.lemmas.Option.{same_Some}
use Rattle.beam_shapes.specs.declared.trees.Halves.{Halves}
use Rattle.beam_shapes.specs.Prelude.{Parts, no_halves, part_of, Grows, IsInterned, IsAbsent, AreDistinct}

-- an item of a list with one more is an old one, or that one at its end
at_push : {X : Type 0} (xs : List X) (y x : X) (i : ℕ) → slice_get (xs ++ y ∷ []) i ≡ Some x → ((i < length xs) × (slice_get xs i ≡ Some x)) ⊎ ((i ≡ length xs) × (y ≡ x))
at_push [] y x zero e = inr (refl, same_Some y x e)
at_push [] y x (suc i) e = absurd (cc e)
at_push (z ∷ zs) y x zero e = inl (omega arith, e)
at_push (z ∷ zs) y x (suc i) e =
    ⊎_elim (λ (a : (i < length zs) × (slice_get zs i ≡ Some x)). inl (omega (arith, a.0), a.1)) (λ (a : (i ≡ length zs) × (y ≡ x)). inr (ap suc a.0, a.1)) (at_push zs y x i e)

distinct_more : {X : Type 0} (xs : List X) (y : X) → AreDistinct xs → IsAbsent y xs → AreDistinct (xs ++ y ∷ [])
distinct_more {X} xs y apart new i j x at_i at_j =
    ⊎_elim
    (λ (a : (i < length xs) × (slice_get xs i ≡ Some x)).
    ⊎_elim
    (λ (b : (j < length xs) × (slice_get xs j ≡ Some x)). apart i j x a.1 b.1)
    (λ (b : (j ≡ length xs) × (y ≡ x)). absurd (new i (a.1 ∙ ap (λ (z : X). Some z) (sym b.1))))
    (at_push xs y x j at_j))
    (λ (a : (i ≡ length xs) × (y ≡ x)).
    ⊎_elim
    (λ (b : (j < length xs) × (slice_get xs j ≡ Some x)). absurd (new j (b.1 ∙ ap (λ (z : X). Some z) (sym a.1))))
    (λ (b : (j ≡ length xs) × (y ≡ x)). a.0 ∙ sym b.0)
    (at_push xs y x j at_j))
    (at_push xs y x i at_i)

pub distinct_interned : {X : Type 0} (x : X) (old new : List X) (n : ℕ) → IsInterned x old new n → AreDistinct old → AreDistinct new
distinct_interned {X} x old new n keeps apart =
    ⊎_elim
    (λ (e : new ≡ old). subst (λ (xs : List X). AreDistinct xs) (sym e) apart)
    (λ (e : (new ≡ old ++ x ∷ []) × IsAbsent x old). subst (λ (xs : List X). AreDistinct xs) (sym e.0) (distinct_more old x apart e.1))
    keeps.3

absent_more : {X : Type 0} (z y : X) (xs : List X) → z ≢ y → IsAbsent z xs → IsAbsent z (xs ++ y ∷ [])
absent_more z y xs ne new i at =
    ⊎_elim (λ (a : (i < length xs) × (slice_get xs i ≡ Some z)). new i a.1) (λ (a : (i ≡ length xs) × (y ≡ z)). ne (sym a.1)) (at_push xs y z i at)

pub absent_interned : {X : Type 0} (z x : X) (old new : List X) (n : ℕ) → z ≢ x → IsInterned x old new n → IsAbsent z old → IsAbsent z new
absent_interned {X} z x old new n ne keeps absent =
    ⊎_elim
    (λ (e : new ≡ old). subst (λ (xs : List X). IsAbsent z xs) (sym e) absent)
    (λ (e : (new ≡ old ++ x ∷ []) × IsAbsent x old). subst (λ (xs : List X). IsAbsent z xs) (sym e.0) (absent_more z x old ne absent))
    keeps.3

-- an interned part has its number
pub interned_part : {X : Type 0} (x : X) (old new : List X) (n : ℕ) → IsInterned x old new n → part_of new n ≡ Some x
interned_part x old new n keeps =
    let some : (n == 0) ≡ false = ne_eqb n 0 (λ (e : n ≡ 0). let a = keeps.0 in omega (arith, a, e)) in
    ap (λ (b : Bool). if b then None else slice_get new (n - 1)) some ∙ keeps.1

-- interning a part only adds to the list
pub interned_grows : {X : Type 0} (x : X) (old new : List X) (n : ℕ) → IsInterned x old new n → (more : List X) × (new ≡ old ++ more)
interned_grows x old new n keeps =
    ⊎_elim (λ (e : new ≡ old). ([], e ∙ sym (append-nil old))) (λ (e : (new ≡ old ++ x ∷ []) × IsAbsent x old). (x ∷ [], e.0)) keeps.3

pub grows_halves : (p : Parts) (labels : List ℕ) (halves new : List Halves) → record { labels = labels; halves = halves } ≡ p → (more : List Halves) × (new ≡ halves ++ more) → Grows p (record { labels = labels; halves = new })
grows_halves p labels halves new is grown = (
  ([], ap (λ (q : Parts). q.labels) is ∙ sym (append-nil p.labels)),
  (grown.0, grown.1 ∙ ap (λ hs. hs ++ grown.0) (ap (λ (q : Parts). q.halves) is)),
)

pub grows_labels : (p : Parts) (labels new : List ℕ) (halves : List Halves) → record { labels = labels; halves = halves } ≡ p → (more : List ℕ) × (new ≡ labels ++ more) → Grows p (record { labels = new; halves = halves })
grows_labels p labels new halves is grown = (
  (grown.0, grown.1 ∙ ap (λ ls. ls ++ grown.0) (ap (λ (q : Parts). q.labels) is)),
  ([], ap (λ (q : Parts). q.halves) is ∙ sym (append-nil p.halves)),
)

pub as_before : {X : Type 0} (old new : List X) → new ≡ old → (more : List X) × (new ≡ old ++ more)
as_before old new is = ([], is ∙ sym (append-nil old))

pub not_none : (left right : ℕ) → ((left ≡ 0) → (right ≡ 0) → ⊥) → no_halves ≢ record { left = left; right = right }
not_none left right some e = some (sym (ap (λ (h : Halves). h.left) e)) (sym (ap (λ (h : Halves). h.right) e))
