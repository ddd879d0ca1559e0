-- The old instances of modules are gathered one after another: a number that is there adds nothing, by cases on each number before it.
use Rattle.std.proofs.Common.{◌≡◌, ◌==◌, ℕ, Bool, true, false, ◌||◌, cond, List, [], ◌∷◌, ◌++◌, if◌then◌else◌, refl, sym, ap, ◌∙◌, eqb-true}
use Rattle.std.proofs.lemmas.Bool.{false≢true}
use Rattle.std.proofs.lemmas.List.Folds.{list_any-append}
use Rattle.std.specs.List.{list_any}
use Rattle.beam_machine.specs.Prelude.{Code, old_of}
use Rattle.beam_model.specs.Prelude.{Listing}
use Rattle.beam_codesrv.specs.Several.{passes}

-- ---- a set of numbers

pub or_false : (a : Bool) → a ≡ (a || false)
or_false true = refl
or_false false = refl

or_assoc : (a b c : Bool) → ((a || b) || c) ≡ (a || (b || c))
or_assoc true b c = refl
or_assoc false b c = refl

again : (a b : Bool) → (a || b) ≡ ((a || b) || a)
again true b = refl
again false true = refl
again false false = refl

-- a number that is there adds nothing
known : (test : ℕ → Bool) (n : ℕ) (ns : List ℕ) → list_any (λ m. n == m) ns ≡ true → list_any test ns ≡ (list_any test ns || test n)
known test n [] e = absurd (false≢true e)
known test n (m ∷ ns) e = go (n == m) refl e (known test n ns)
  where
    go : (b : Bool) → (n == m) ≡ b → (b || list_any (λ k. n == k) ns) ≡ true → (list_any (λ k. n == k) ns ≡ true → list_any test ns ≡ (list_any test ns || test n))
        → (test m || list_any test ns) ≡ ((test m || list_any test ns) || test n)
    go true same e further = again (test m) (list_any test ns) ∙ ap (λ k. (test m || list_any test ns) || test k) (sym (eqb-true n m same))
    go false other e further = ap (λ b. test m || b) (further e) ∙ sym (or_assoc (test m) (list_any test ns) (test n))

pub added : (test : ℕ → Bool) (n : ℕ) (ns : List ℕ) → list_any test (if list_any (λ m. n == m) ns then ns else ns ++ n ∷ []) ≡ (list_any test ns || test n)
added test n ns = go (list_any (λ m. n == m) ns) refl
  where
    go : (b : Bool) → list_any (λ m. n == m) ns ≡ b → list_any test (cond b ns (ns ++ n ∷ [])) ≡ (list_any test ns || test n)
    go true there = known test n ns there
    go false new = list_any-append test ns (n ∷ []) ∙ ap (λ b. list_any test ns || b) (sym (or_false (test n)))

-- what passes among the numbers so far and the old instances of the other modules
abbrev pub passes_so_far : (ℕ → Bool) → List ℕ → Code → List Listing → Bool
passes_so_far test ns code ls = list_any test ns || list_any (λ l. passes test (old_of code l.name)) ls

pub one_further : (test : ℕ → Bool) (before after : List ℕ) (code : Code) (l : Listing) (ls : List Listing) → list_any test after ≡ (list_any test before || passes test (old_of code l.name))
    → passes_so_far test after code ls ≡ passes_so_far test before code (l ∷ ls)
one_further test before after code l ls e =
    ap (λ b. b || list_any (λ m. passes test (old_of code m.name)) ls) e
    ∙ or_assoc (list_any test before) (passes test (old_of code l.name)) (list_any (λ m. passes test (old_of code m.name)) ls)

pub no_further : (test : ℕ → Bool) (ns : List ℕ) (code : Code) (ls : List Listing) → ls ≡ [] → list_any test ns ≡ passes_so_far test ns code ls
no_further test ns code ls e = or_false (list_any test ns) ∙ ap (passes_so_far test ns code) (sym e)
