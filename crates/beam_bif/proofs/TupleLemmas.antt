-- Lemmas on tuples as the lists of their elements.
use Rattle.std.proofs.Common.{◌≡◌, ℕ, zero, suc, ◌+◌, ◌<◌, ◌≤◌, ℤ, pos, negsuc, ◌≤ℤ◌, ◌<ℤ◌, ◌⊎◌, List, length, get_or, Result, Ok, Err, refl, ap, arith, rules, add-one, nat_lt, Bool, true, if◌then◌else◌, slice_set}
use Rattle.beam_model.specs.Prelude.{or_badarg, element_of, set_element_of, tuple_size_of, list_of_tuple, limited_term}
use Rattle.beam_model.specs.declared.exception.Fault.{Fault}
use Rattle.beam_model.specs.declared.exception.Fault.TheVariants.{Badarg}
use Rattle.beam_term.specs.Prelude.{TermValue, int_term, tuple_of, list_of, elements_of-terms_of, count_of-terms_of}
use Rattle.std.proofs.lemmas.Int.{ints}
use Rattle.std.proofs.lemmas.Option.{slice_get_read, slice_get_past}
use Rattle.std.proofs.lemmas.Bool.Decides.{nat_tests}

pub tuple_size_of-tuple_of : (xs : List TermValue) → tuple_size_of (tuple_of xs) ≡ Ok (int_term (pos (length xs)))
tuple_size_of-tuple_of xs = ap (λ n. Ok (int_term (pos n))) (count_of-terms_of xs)

pub list_of_tuple-tuple_of : (xs : List TermValue) → list_of_tuple (tuple_of xs) ≡ limited_term (list_of xs)
list_of_tuple-tuple_of xs = ap (λ ys. limited_term (list_of ys)) (elements_of-terms_of xs)

pub element_of-at : (n : ℤ) (i : ℕ) (xs : List TermValue) (x : TermValue) → n ≡ pos (i + 1) → i < length xs → x ≡ get_or xs i x → element_of (int_term n) (tuple_of xs) ≡ Ok x
element_of-at n i xs x e h g = rw (e, add-one, elements_of-terms_of) (ap or_badarg (slice_get_read xs (length xs) i x refl h g))

pub element_of-past : (n : ℤ) (xs : List TermValue) → (n ≤ℤ pos 0) ⊎ (pos (length xs) <ℤ n) → element_of (int_term n) (tuple_of xs) ≡ Err Badarg
element_of-past (pos zero) xs h = refl
element_of-past (pos (suc i)) xs h = rw elements_of-terms_of (ap or_badarg (slice_get_past xs i (past h)))
  where
    past : (pos (suc i) ≤ℤ pos 0) ⊎ (pos (length xs) <ℤ pos (suc i)) → length xs ≤ i
    past g = grind (arith, ints)
element_of-past (negsuc i) xs h = refl

pub set_element_of-at : (n : ℤ) (i : ℕ) (xs : List TermValue) (x : TermValue) → n ≡ pos (i + 1) → i < length xs → set_element_of (int_term n) (tuple_of xs) x ≡ limited_term (tuple_of (slice_set xs i x))
set_element_of-at n i xs x e h = rw (e, add-one, count_of-terms_of, elements_of-terms_of) (within (nat_lt i (length xs)) (limited_term (tuple_of (slice_set xs i x))) (search rules))
  where
    within : (b : Bool) (y : Result TermValue Fault) → b ≡ true → (if b then y else Err Badarg) ≡ y
    within b y g = rw g

pub set_element_of-past : (n : ℤ) (xs : List TermValue) (x : TermValue) → (n ≤ℤ pos 0) ⊎ (pos (length xs) <ℤ n) → set_element_of (int_term n) (tuple_of xs) x ≡ Err Badarg
set_element_of-past (pos zero) xs x h = refl
set_element_of-past (pos (suc i)) xs x h = rw (count_of-terms_of) (grind (arith, ints, nat_tests))
set_element_of-past (negsuc i) xs x h = refl

pub ruleset tuples = (tuple_size_of-tuple_of, list_of_tuple-tuple_of, element_of-at, element_of-past, set_element_of-at, set_element_of-past)
