-- Small facts of options, truths and lists.
use Rattle.std.proofs.Common.{◌≡◌, ℕ, suc, zero, Bool, true, false, cond, List, [], ◌∷◌, ◌++◌, refl, sym, subst, ◌∙◌, true≢false, Option, Some, None, is_some, slice_get}
use Rattle.std.proofs.lemmas.Bool.{and_parts}
use Rattle.std.proofs.lemmas.List.Folds.{list_all-append}
use Rattle.std.specs.List.{list_all}
use Rattle.std.proofs.lemmas.Option.{same_Some}

pub some_of : {A : Type 0} (o : Option A) → is_some o ≡ true → (x : A) × (o ≡ Some x)
some_of None e = absurd (true≢false (sym e))
some_of (Some x) e = (x, refl)

-- a choice that has a value was made
pub chosen_some : {A : Type 0} (b : Bool) (x : A) → is_some (cond b (Some x) None) ≡ true → b ≡ true
chosen_some true x e = refl
chosen_some false x e = absurd (true≢false (sym e))

pub in_parts : (test : ℕ → Bool) (ns ms : List ℕ) → list_all test (ns ++ ms) ≡ true → (list_all test ns ≡ true) × (list_all test ms ≡ true)
in_parts test ns ms e = and_parts (list_all test ns) (list_all test ms) (sym (list_all-append test ns ms) ∙ e)

pub all_at : {X : Type 0} (test : X → Bool) (xs : List X) (at : ℕ) (x : X) → list_all test xs ≡ true → slice_get xs at ≡ Some x → test x ≡ true
all_at test [] at x h e = cc
all_at test (y ∷ xs) zero x h e = subst (λ x. test x ≡ true) (same_Some y x e) (and_parts (test y) (list_all test xs) h).0
all_at test (y ∷ xs) (suc at) x h e = all_at test xs at x (and_parts (test y) (list_all test xs) h).1 e
