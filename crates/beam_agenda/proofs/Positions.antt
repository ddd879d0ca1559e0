-- The first element of a list that passes a test.
use Rattle.std.proofs.Common.{◌≡◌, ℕ, zero, suc, ◌+◌, ◌<◌, Bool, true, false, cond, List, [], ◌∷◌, length, take, drop, slice_get, refl, sym, ap, ◌∙◌, length-drop, arith, drop-drop, Option, Some, None, option_map, IfSome}
use Rattle.std.proofs.lemmas.List.{drop-take}
use Rattle.beam_agenda.specs.Prelude.{first_position, position_from}

pub first_position_within : {X : Type 0} → (test : X → Bool) (xs : List X) (n : ℕ) → first_position test xs ≡ Some n → n < length xs
first_position_within test [] n h = absurd (cc)
first_position_within test (x ∷ rest) n h = at (test x) (first_position test rest) (λ m g. first_position_within test rest m g) h
  where
    there : (o : Option ℕ) → ((m : ℕ) → o ≡ Some m → m < length rest) → option_map (λ n. n + 1) o ≡ Some n → n < suc (length rest)
    there None g h = absurd (cc)
    there (Some m) g h =
        let e : m + 1 ≡ n = cc in
        omega (arith, g m refl)

    at : (t : Bool) (o : Option ℕ) → ((m : ℕ) → o ≡ Some m → m < length rest) → cond t (Some 0) (option_map (λ n. n + 1) o) ≡ Some n → n < suc (length rest)
    at true o g h = let e : 0 ≡ n = cc in omega arith
    at false o g h = there o g h

pub position_within : {X : Type 0} → (test : X → Bool) (from : ℕ) (xs : List X) (n : ℕ) → Some n ≡ position_from test from xs → n < length xs
position_within test from xs n h = at (first_position test (drop from xs)) refl h
  where
    at : (o : Option ℕ) → first_position test (drop from xs) ≡ o → Some n ≡ option_map (λ n. from + n) o → n < length xs
    at None g h = absurd (cc)
    at (Some m) g h =
        let e : n ≡ from + m = cc in
        omega (arith, first_position_within test (drop from xs) m g, length-drop from xs)

pub all_within : {X : Type 0} → (test : X → Bool) (from : ℕ) (xs : List X) (o : Option ℕ) → o ≡ position_from test from xs → IfSome o (λ n. n < length xs)
all_within test from xs None h = tt
all_within test from xs (Some n) h = position_within test from xs n h

-- ---- one step

drop_here : {X : Type 0} → (from : ℕ) (xs : List X) (x : X) → slice_get xs from ≡ Some x → drop from xs ≡ x ∷ drop (suc from) xs
drop_here from [] x h = absurd (cc)
drop_here zero (y ∷ xs) x h = let same : y ≡ x = cc in ap (λ x. x ∷ xs) same
drop_here (suc from) (y ∷ xs) x h = drop_here from xs x h

drop_past : {X : Type 0} → (from : ℕ) (xs : List X) → slice_get xs from ≡ None → drop from xs ≡ []
drop_past zero [] h = refl
drop_past (suc from) [] h = refl
drop_past zero (x ∷ xs) h = absurd (cc)
drop_past (suc from) (x ∷ xs) h = drop_past from xs h

pub position_past : {X : Type 0} → (test : X → Bool) (from : ℕ) (xs : List X) → slice_get xs from ≡ None → None ≡ position_from test from xs
position_past test from xs h = ap (λ xs. option_map (λ n. from + n) (first_position test xs)) (sym (drop_past from xs h))

pub position_here : {X : Type 0} → (test : X → Bool) (from : ℕ) (xs : List X) (x : X) → slice_get xs from ≡ Some x → test x ≡ true → Some from ≡ position_from test from xs
position_here test from xs x h t =
    ap Some (omega arith) ∙ (ap (λ t. option_map (λ n. from + n) (cond t (Some 0) (option_map (λ n. n + 1) (first_position test (drop (suc from) xs))))) (sym t)
    ∙ ap (λ xs. option_map (λ n. from + n) (first_position test xs)) (sym (drop_here from xs x h)))

pub further : (from : ℕ) (o : Option ℕ) → option_map (λ n. from + n) (option_map (λ n. n + 1) o) ≡ option_map (λ n. suc from + n) o
further from None = refl
further from (Some n) = let e : from + (n + 1) ≡ suc from + n = omega arith in ap Some e

pub position_later : {X : Type 0} → (test : X → Bool) (from : ℕ) (xs : List X) (x : X) → slice_get xs from ≡ Some x → test x ≡ false → position_from test from xs ≡ position_from test (suc from) xs
position_later test from xs x h t =
    ap (λ xs. option_map (λ n. from + n) (first_position test xs)) (drop_here from xs x h)
    ∙ (ap (λ t. option_map (λ n. from + n) (cond t (Some 0) (option_map (λ n. n + 1) (first_position test (drop (suc from) xs))))) t
    ∙ further from (first_position test (drop (suc from) xs)))

-- ---- in the first part of a list, or after it

pub add_none : (o : Option ℕ) → option_map (λ n. 0 + n) o ≡ o
add_none None = refl
add_none (Some n) = let e : 0 + n ≡ n = omega arith in ap Some e

pub add_twice : (k m : ℕ) (o : Option ℕ) → option_map (λ n. k + n) (option_map (λ n. m + n) o) ≡ option_map (λ n. k + m + n) o
add_twice k m None = refl
add_twice k m (Some n) = let e : k + (m + n) ≡ k + m + n = omega arith in ap Some e

one_more : (j : ℕ) (o : Option ℕ) → option_map (λ n. n + 1) (option_map (λ n. j + n) o) ≡ option_map (λ n. suc j + n) o
one_more j None = refl
one_more j (Some n) = let e : j + n + 1 ≡ suc j + n = omega arith in ap Some e

pub first_near : {X : Type 0} → (test : X → Bool) (j : ℕ) (xs : List X) (n : ℕ) → first_position test (take j xs) ≡ Some n → first_position test xs ≡ Some n
first_near test zero xs n h = absurd (cc)
first_near test (suc j) [] n h = absurd (cc)
first_near test (suc j) (x ∷ xs) n h = at (test x) (first_position test (take j xs)) (λ m g. first_near test j xs m g) h
  where
    there : (o : Option ℕ) → ((m : ℕ) → o ≡ Some m → first_position test xs ≡ Some m) → option_map (λ n. n + 1) o ≡ Some n → option_map (λ n. n + 1) (first_position test xs) ≡ Some n
    there None g h = absurd (cc)
    there (Some m) g h = ap (option_map (λ n. n + 1)) (g m refl) ∙ h

    at : (t : Bool) (o : Option ℕ) → ((m : ℕ) → o ≡ Some m → first_position test xs ≡ Some m) → cond t (Some 0) (option_map (λ n. n + 1) o) ≡ Some n
        → cond t (Some 0) (option_map (λ n. n + 1) (first_position test xs)) ≡ Some n
    at true o g h = h
    at false o g h = there o g h

pub first_far : {X : Type 0} → (test : X → Bool) (j : ℕ) (xs : List X) → first_position test (take j xs) ≡ None → first_position test xs ≡ option_map (λ n. j + n) (first_position test (drop j xs))
first_far test zero xs h = sym (add_none (first_position test xs))
first_far test (suc j) [] h = refl
first_far test (suc j) (x ∷ xs) h = at (test x) (first_position test (take j xs)) (λ g. first_far test j xs g) h
  where
    there : (o : Option ℕ) → (o ≡ None → first_position test xs ≡ option_map (λ n. j + n) (first_position test (drop j xs))) → option_map (λ n. n + 1) o ≡ None
        → option_map (λ n. n + 1) (first_position test xs) ≡ option_map (λ n. suc j + n) (first_position test (drop j xs))
    there None g h = ap (option_map (λ n. n + 1)) (g refl) ∙ one_more j (first_position test (drop j xs))
    there (Some m) g h = absurd (cc)

    at : (t : Bool) (o : Option ℕ) → (o ≡ None → first_position test xs ≡ option_map (λ n. j + n) (first_position test (drop j xs))) → cond t (Some 0) (option_map (λ n. n + 1) o) ≡ None
        → cond t (Some 0) (option_map (λ n. n + 1) (first_position test xs)) ≡ option_map (λ n. suc j + n) (first_position test (drop j xs))
    at true o g h = absurd (cc)
    at false o g h = there o g h

-- ---- from a position, in the first part or after it

none_added : (k : ℕ) (o : Option ℕ) → None ≡ option_map (λ n. k + n) o → o ≡ None
none_added k None h = refl
none_added k (Some n) h = absurd (cc)

pub position_near : {X : Type 0} → (test : X → Bool) (from j : ℕ) (xs : List X) (n : ℕ) → Some n ≡ position_from test from (take (from + j) xs) → Some n ≡ position_from test from xs
position_near test from j xs n h = at (first_position test (take j (drop from xs))) refl (h ∙ ap (λ xs. option_map (λ n. from + n) (first_position test xs)) (drop-take from j xs))
  where
    at : (o : Option ℕ) → first_position test (take j (drop from xs)) ≡ o → Some n ≡ option_map (λ n. from + n) o → Some n ≡ position_from test from xs
    at None g h = absurd (cc)
    at (Some m) g h = h ∙ ap (option_map (λ n. from + n)) (sym (first_near test j (drop from xs) m g))

pub position_far : {X : Type 0} → (test : X → Bool) (from j : ℕ) (xs : List X) → None ≡ position_from test from (take (from + j) xs) → position_from test from xs ≡ position_from test (from + j) xs
position_far test from j xs h =
    let none : first_position test (take j (drop from xs)) ≡ None = none_added from _ (h ∙ ap (λ xs. option_map (λ n. from + n) (first_position test xs)) (drop-take from j xs)) in
    ap (option_map (λ n. from + n)) (first_far test j (drop from xs) none)
    ∙ (add_twice from j (first_position test (drop j (drop from xs)))
    ∙ ap (λ xs. option_map (λ n. from + j + n) (first_position test xs)) (drop-drop j from xs))
