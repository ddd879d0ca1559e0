-- Lemmas on lists with one element more.
use Rattle.std.proofs.Common.{◌≡◌, Bool, ◌&&◌, ◌||◌, true, false, cond, List, [], ◌∷◌, ◌++◌, refl, ◌∙◌}
use Rattle.std.specs.List.{list_all, list_any}
use Rattle.std.proofs.lemmas.List.Folds.{list_all-append, list_any-append}

pub list_all-push : {X : Type 0} (p : X → Bool) (xs : List X) (x : X) → list_all p (xs ++ x ∷ []) ≡ (list_all p xs && (p x && true))
list_all-push p xs x = list_all-append p xs (x ∷ [])

or_false : (a b : Bool) → (b || (a || false)) ≡ cond a true b
or_false true true = refl
or_false true false = refl
or_false false true = refl
or_false false false = refl

pub list_any-push : {X : Type 0} (p : X → Bool) (xs : List X) (x : X) → list_any p (xs ++ x ∷ []) ≡ cond (p x) true (list_any p xs)
list_any-push p xs x = list_any-append p xs (x ∷ []) ∙ or_false (p x) (list_any p xs)

pub ruleset pushed = (list_all-push, list_all-append, list_any-push)
