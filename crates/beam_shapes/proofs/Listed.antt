-- Steps for each label of a list, one after another.
use Rattle.std.proofs.Common.{◌≡◌, ℕ, Bool, true, List, ◌∷◌, ◌++◌, Result, Ok, Err, sym, ◌∙◌}
use Rattle.std.specs.List.{list_all}
use Rattle.std.proofs.lemmas.Bool.{and_parts, and_from}
use Rattle.std.proofs.lemmas.List.Folds.{list_all-append}
use Rattle.beam_model.specs.Prelude.{Assignment}
use Rattle.beam_shapes.specs.Prelude.{ShapeState, IsBelow, assigned, Forces, Fails, Does}
use Rattle.beam_shapes.specs.declared.error.FrameCheckError.{FrameCheckError}
use Rattle.beam_shapes.proofs.Forced.{forces_both, fails_both, forces_as, fails_as}

pub does_as : {T : Type 0} (r : Result T FrameCheckError) (C D : Assignment → Type 0) (old new : ShapeState)
    → ((a : Assignment) → IsBelow old.known a → D a → C a) → (C (assigned old.known) → D (assigned old.known)) → Does r C old new → Does r D old new
does_as (Ok x) C D old new there back one = forces_as C D old new there back one
does_as (Err e) C D old new there back one = fails_as C D old e there one

pub does_both : {T : Type 0} (r : Result T FrameCheckError) (C D : Assignment → Type 0) (old mid new : ShapeState) → Forces C old mid → Does r D mid new → Does r (λ a. C a × D a) old new
does_both (Ok x) C D old mid new one two = forces_both C D old mid one new two
does_both (Err e) C D old mid new one two = fails_both C D old mid one e two

module _ (f : Assignment → ℕ → Bool) (xs ys : List ℕ) where
  apart : (a : Assignment) → list_all (f a) (xs ++ ys) ≡ true → (list_all (f a) xs ≡ true) × (list_all (f a) ys ≡ true)
  apart a e = and_parts (list_all (f a) xs) (list_all (f a) ys) (sym (list_all-append (f a) xs ys) ∙ e)

  joint : (a : Assignment) → (list_all (f a) xs ≡ true) × (list_all (f a) ys ≡ true) → list_all (f a) (xs ++ ys) ≡ true
  joint a p = list_all-append (f a) xs ys ∙ and_from (list_all (f a) xs) (list_all (f a) ys) p.0 p.1

  -- some labels and then the others
  pub forces_all : (old mid new : ShapeState) → Forces (λ a. list_all (f a) xs ≡ true) old mid → Forces (λ a. list_all (f a) ys ≡ true) mid new
      → Forces (λ a. list_all (f a) (xs ++ ys) ≡ true) old new
  forces_all old mid new one two =
      forces_as (λ a. (list_all (f a) xs ≡ true) × (list_all (f a) ys ≡ true)) (λ a. list_all (f a) (xs ++ ys) ≡ true) old new
      (λ a below e. apart a e)
      (joint (assigned old.known))
      (forces_both (λ a. list_all (f a) xs ≡ true) (λ a. list_all (f a) ys ≡ true) old mid one new two)

  pub fails_others : (old mid : ShapeState) (e : FrameCheckError) → Forces (λ a. list_all (f a) xs ≡ true) old mid → Fails e (λ a. list_all (f a) ys ≡ true) mid
      → Fails e (λ a. list_all (f a) (xs ++ ys) ≡ true) old
  fails_others old mid e one two =
      fails_as (λ a. (list_all (f a) xs ≡ true) × (list_all (f a) ys ≡ true)) (λ a. list_all (f a) (xs ++ ys) ≡ true) old e
      (λ a below h. apart a h)
      (fails_both (λ a. list_all (f a) xs ≡ true) (λ a. list_all (f a) ys ≡ true) old mid one e two)

  pub fails_some : (old : ShapeState) (e : FrameCheckError) → Fails e (λ a. list_all (f a) xs ≡ true) old → Fails e (λ a. list_all (f a) (xs ++ ys) ≡ true) old
  fails_some old e one =
      fails_as (λ a. list_all (f a) xs ≡ true) (λ a. list_all (f a) (xs ++ ys) ≡ true) old e (λ a below h. (apart a h).0) one

module _ (f : Assignment → ℕ → Bool) (n : ℕ) (ns : List ℕ) where
  one_apart : (a : Assignment) → list_all (f a) (n ∷ ns) ≡ true → (f a n ≡ true) × (list_all (f a) ns ≡ true)
  one_apart a e = and_parts (f a n) (list_all (f a) ns) e

  -- a label and then the others
  pub forces_next : (old mid new : ShapeState) → Forces (λ a. f a n ≡ true) old mid → Forces (λ a. list_all (f a) ns ≡ true) mid new → Forces (λ a. list_all (f a) (n ∷ ns) ≡ true) old new
  forces_next old mid new one two =
      forces_as (λ a. (f a n ≡ true) × (list_all (f a) ns ≡ true)) (λ a. list_all (f a) (n ∷ ns) ≡ true) old new
      (λ a below e. one_apart a e)
      (λ p. and_from (f (assigned old.known) n) (list_all (f (assigned old.known)) ns) p.0 p.1)
      (forces_both (λ a. f a n ≡ true) (λ a. list_all (f a) ns ≡ true) old mid one new two)

  pub fails_next : (old mid : ShapeState) (e : FrameCheckError) → Forces (λ a. f a n ≡ true) old mid → Fails e (λ a. list_all (f a) ns ≡ true) mid → Fails e (λ a. list_all (f a) (n ∷ ns) ≡ true) old
  fails_next old mid e one two =
      fails_as (λ a. (f a n ≡ true) × (list_all (f a) ns ≡ true)) (λ a. list_all (f a) (n ∷ ns) ≡ true) old e
      (λ a below h. one_apart a h)
      (fails_both (λ a. f a n ≡ true) (λ a. list_all (f a) ns ≡ true) old mid one e two)

  pub fails_now : (old : ShapeState) (e : FrameCheckError) → Fails e (λ a. f a n ≡ true) old → Fails e (λ a. list_all (f a) (n ∷ ns) ≡ true) old
  fails_now old e one = fails_as (λ a. f a n ≡ true) (λ a. list_all (f a) (n ∷ ns) ≡ true) old e (λ a below h. (one_apart a h).0) one
