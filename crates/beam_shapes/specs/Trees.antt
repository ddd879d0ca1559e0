-- Trees whose places hold the label of a catch tag or nothing, and which share their parts. (This crate's own.)
use Rattle.std.specs.Prelude.{◌≡◌, ◌≢◌, ℕ, zero, suc, ◌-◌, ◌<◌, ◌≤◌, ◌==◌, ◌⊎◌, if◌then◌else◌, List, [], ◌∷◌, ◌++◌, length, slice_get, Option, Some, None, unwrap_or}
use Rattle.beam_shapes.specs.declared.trees.Halves.{Halves}

-- labels, and halves of trees by their numbers
pub record Parts : Type 0 where
  pub labels : List ℕ
  pub halves : List Halves

abbrev pub no_halves : Halves
no_halves = record { left = 0; right = 0 }

-- the part of a number, from 1 on; 0 stands for nothing
abbrev pub part_of : {X : Type 0} → List X → ℕ → Option X
part_of xs tree = if tree == 0 then None else slice_get xs (tree - 1)

abbrev pub halves_of : List Halves → ℕ → Halves
halves_of hs tree = unwrap_or (part_of hs tree) no_halves

-- the tags at the 2^h places of a tree of height h, from the left
unfoldable pub tags_of : Parts → ℕ → ℕ → List (Option ℕ)
tags_of p zero tree = part_of p.labels tree ∷ []
tags_of p (suc h) tree = tags_of p h (halves_of p.halves tree).left ++ tags_of p h (halves_of p.halves tree).right

-- the parts of a tree are there
unfoldable pub IsTree : Parts → ℕ → ℕ → Type 0
IsTree p zero tree = tree ≤ length p.labels
IsTree p (suc h) tree = (tree ≤ length p.halves) × IsTree p h (halves_of p.halves tree).left × IsTree p h (halves_of p.halves tree).right

-- parts were added to the earlier ones
abbrev pub Grows : Parts → Parts → Type 0
Grows old new =
    ((more : List ℕ) × (new.labels ≡ old.labels ++ more)) × ((more : List Halves) × (new.halves ≡ old.halves ++ more))

abbrev pub IsAbsent : {X : Type 0} → X → List X → Type 0
IsAbsent x xs = (i : ℕ) → slice_get xs i ≢ Some x

-- a part has a number, and was added to the list if it was new
abbrev pub IsInterned : {X : Type 0} → X → List X → List X → ℕ → Type 0
IsInterned x old new n = (0 < n) × (slice_get new (n - 1) ≡ Some x) × (n ≤ length new) × ((new ≡ old) ⊎ ((new ≡ old ++ x ∷ []) × IsAbsent x old))

abbrev pub AreDistinct : {X : Type 0} → List X → Type 0
AreDistinct {X} xs = (i j : ℕ) (x : X) → slice_get xs i ≡ Some x → slice_get xs j ≡ Some x → i ≡ j

-- each label and each pair of halves is there once, and no pair has two empty halves
abbrev pub IsTidy : Parts → Type 0
IsTidy p = AreDistinct p.labels × AreDistinct p.halves × IsAbsent no_halves p.halves
