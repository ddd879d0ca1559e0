-- Code of earlier, and the node's code now.
use Rattle.std.proofs.Common.{◌≡◌, ℕ, ◌+◌, ◌≤◌, ◌<◌, ◌==◌, ◌||◌, nat_lt, Bool, true, false, cond, ◌⊎◌, inl, inr, List, [], ◌∷◌, refl, sym, ap, subst, ◌∙◌, arith, ◌&&◌, Option, Some, None}
use Rattle.std.proofs.lemmas.Bool.Decides.{nat_tests}
use Rattle.std.proofs.lemmas.Slice.Eq.{bytes_eq-Decides}
use Rattle.std.specs.Cmp.Lexicographic.{nat_list_eq_equiv}
use Rattle.std.proofs.lemmas.Bool.{and_parts}
use Rattle.std.proofs.lemmas.Option.{same_Some}
use Rattle.beam_model.specs.Prelude.{Listing, same_text}
use Rattle.beam_machine.specs.declared.debug.DebugEvent.{DebugEvent}
use Rattle.beam_machine.specs.Prelude.{Code, Instance, versions_of, has_instance, with_versions, changed, loaded, deleted, purged, Debugged, debug_next, debug_run, erase, State, Versions}
use Rattle.beam_laws.specs.Prelude.{bears, how_many, Ordered, IsIn, IsEarlierCode, same_number, same_numbers}
use Rattle.beam_laws.proofs.Debugging.{run_erased}
use Rattle.beam_laws.proofs.Events.{Kept, kept_run}

-- ---- changes of code bring no other instance

abbrev Within : Code → Code → Type 0
Within new old = (j : Instance) → IsIn new j → IsIn old j

-- the instances of a module and of the rest
abbrev IsOf : Versions → Code → Instance → Type 0
IsOf v rest j = (v.current ≡ Some j) ⊎ ((v.old ≡ Some j) ⊎ IsIn rest j)

within_rest : (v : Versions) (rest others : Code) → Within rest others → (j : Instance) → IsOf v rest j → IsOf v others j
within_rest v rest others h j (inl e) = inl e
within_rest v rest others h j (inr (inl e)) = inr (inl e)
within_rest v rest others h j (inr (inr x)) = inr (inr (h j x))

within_with : (name : List ℕ) (v : Versions) (rest : Code) (j : Instance) → IsIn (with_versions name v rest) j → IsOf v rest j
within_with name v rest j = elim (has_instance v || has_instance (versions_of rest name)) as (λ b. IsIn (cond {A = Code} b (v ∷ rest) rest) j → IsOf v rest j) [
  | true ↦ λ x. x
  | false ↦ λ x. inr (inr x)
]

abbrev Fewer : (Versions → Versions) → Type 0
Fewer change = (v : Versions) (rest : Code) (j : Instance) → IsOf (change v) rest j → IsOf v rest j

within_changed : (change : Versions → Versions) → Fewer change → (code : Code) (name : List ℕ) → Within (changed change code name) code
within_changed change fewer [] name j = λ x. x
within_changed change fewer (v ∷ rest) name j =
    elim (same_text v.name name) as (λ b. IsIn (cond {A = Code} b (with_versions name (change v) rest) (v ∷ changed change rest name)) j → IsOf v rest j) [
      | true ↦ λ x. fewer v rest j (within_with name (change v) rest j x)
      | false ↦ λ x. within_rest v (changed change rest name) rest (within_changed change fewer rest name) j x
    ]

none_is : {C : Type 0} (j : Instance) → None ≡ Some j → C
none_is j e = cc

fewer_deleted : Fewer (λ v. record v { current = None; old = v.current })
fewer_deleted v rest j (inl e) = none_is j e
fewer_deleted v rest j (inr (inl e)) = inl e
fewer_deleted v rest j (inr (inr x)) = inr (inr x)

fewer_purged : Fewer (λ v. record v { old = None })
fewer_purged v rest j (inl e) = inl e
fewer_purged v rest j (inr (inl e)) = none_is j e
fewer_purged v rest j (inr (inr x)) = inr (inr x)

-- a load brings one with its number
abbrev IsNew : ℕ → Code → Instance → Type 0
IsNew number code j = (j.number ≡ number) ⊎ IsIn code j

new_in : (number : ℕ) (l : Listing) (j : Instance) → Some (record { number = number; listing = l }) ≡ Some j → j.number ≡ number
new_in number l j e = ap (λ i. i.number) (sym (same_Some (record { number = number; listing = l }) j e))

new_here : (v : Versions) (rest : Code) (number : ℕ) (l : Listing) (j : Instance) → IsOf (record v { current = Some (record { number = number; listing = l }); old = v.current }) rest j → IsNew number (v ∷ rest) j
new_here v rest number l j (inl e) = inl (new_in number l j e)
new_here v rest number l j (inr (inl e)) = inr (inl e)
new_here v rest number l j (inr (inr x)) = inr (inr (inr x))

new_behind : (v : Versions) (rest : Code) (number : ℕ) (j : Instance) → IsNew number rest j → IsNew number (v ∷ rest) j
new_behind v rest number j (inl e) = inl e
new_behind v rest number j (inr x) = inr (inr (inr x))

new_later : (v : Versions) (rest more : Code) (number : ℕ) (j : Instance) → (IsIn more j → IsNew number rest j) → IsOf v more j → IsNew number (v ∷ rest) j
new_later v rest more number j h (inl e) = inr (inl e)
new_later v rest more number j h (inr (inl e)) = inr (inr (inl e))
new_later v rest more number j h (inr (inr x)) = new_behind v rest number j (h x)

new_first : (number : ℕ) (l : Listing) (j : Instance) → IsOf (record { name = l.name; current = Some (record { number = number; listing = l }); old = None }) [] j → IsNew number [] j
new_first number l j (inl e) = inl (new_in number l j e)
new_first number l j (inr (inl e)) = none_is j e
new_first number l j (inr (inr x)) = inr x

within_loaded : (number : ℕ) (l : Listing) (code : Code) (j : Instance) → IsIn (loaded code number l) j → IsNew number code j
within_loaded number l [] j = λ x. new_first number l j x
within_loaded number l (v ∷ rest) j =
    elim (same_text v.name l.name) as (λ b. IsIn (cond {A = Code} b (record v { current = Some (record { number = number; listing = l }); old = v.current } ∷ rest) (v ∷ loaded rest number l)) j → IsNew number (v ∷ rest) j) [
      | true ↦ λ x. new_here v rest number l j x
      | false ↦ λ x. new_later v rest (loaded rest number l) number j (within_loaded number l rest j) x
    ]

-- ---- what events keep

fewer_kin : (code new : Code) (s : State) → Within new s.code → IsEarlierCode code s → IsEarlierCode code (record s { code = new })
fewer_kin code new s within k i x = ((k i x).0, λ j y. (k i x).1 j (within j y))

loaded_kin : (code : Code) (s : State) (l : Listing) → IsEarlierCode code s → IsEarlierCode code (record s { code = loaded s.code (s.instances + 1) l; instances = s.instances + 1 })
loaded_kin code s l k i x = (omega (arith, (k i x).0), λ j y e. by j (within_loaded (s.instances + 1) l s.code j y) e)
  where
    by : (j : Instance) → IsNew (s.instances + 1) s.code j → j.number ≡ i.number → j ≡ i
    by j (inl new) e = absurd (omega (arith, (k i x).0, new, e))
    by j (inr y) e = (k i x).1 j y e

kin : Code → Kept
kin code = record {
  keeps = λ s t. IsEarlierCode code s → IsEarlierCode code t;
  then = λ s t u a b k. b (a k);
  still = λ s t a k. λ i x. (subst (λ n. i.number ≤ n) (sym a.2) (k i x).0, λ j y. (k i x).1 j (subst (λ c. IsIn c j) a.0 y));
  clock = λ s now a k. k;
  delete = λ s name k. fewer_kin code (deleted s.code name) s (within_changed (λ v. record v { current = None; old = v.current }) fewer_deleted s.code name) k;
  purge = λ s name ps k. fewer_kin code (purged s.code name) s (within_changed (λ v. record v { old = None }) fewer_purged s.code name) k;
  load = λ s l k. loaded_kin code s l k;
}

pub stay_kin : (code : Code) (d : Debugged) (events : List (DebugEvent Listing)) → IsEarlierCode code d.node → IsEarlierCode code (debug_run d events).state.node
unfolding kin
stay_kin code d events k = subst (IsEarlierCode code) (run_erased d events) (kept_run (kin code) d.node (erase d events) k)

pub stays_kin : (code : Code) (d : Debugged) (e : DebugEvent Listing) → IsEarlierCode code d.node → IsEarlierCode code (debug_next d e).state.node
stays_kin code d e k = stay_kin code d (e ∷ []) k

-- ---- each number is one instance's

pub bears_own : (i : Instance) (o : Option Instance) → o ≡ Some i → bears i.number o ≡ 1
bears_own i o e =
    let own : (i.number == i.number) ≡ true = grind (arith, nat_tests) in
    ap (bears i.number) e ∙ ap (λ b. cond b 1 0) own

counted : (code : Code) (i : Instance) → IsIn code i → 1 ≤ how_many i.number code
counted [] i x = absurd x
counted (v ∷ rest) i (inl e) = omega (arith, bears_own i v.current e)
counted (v ∷ rest) i (inr (inl e)) = omega (arith, bears_own i v.old e)
counted (v ∷ rest) i (inr (inr x)) = omega (arith, counted rest i x)

-- an instance that bears the number of another
bears_same : (n : ℕ) (i : Instance) (o : Option Instance) → o ≡ Some i → i.number ≡ n → bears n o ≡ 1
bears_same n i o e same = subst (λ n. bears n o ≡ 1) same (bears_own i o e)

counted_same : (n : ℕ) (code : Code) (i : Instance) → IsIn code i → i.number ≡ n → 1 ≤ how_many n code
counted_same n code i x same = subst (λ n. 1 ≤ how_many n code) same (counted code i x)

module _ (n : ℕ) (i j : Instance) (a : i.number ≡ n) (b : j.number ≡ n) where
  one_instance : (code : Code) → how_many n code ≤ 1 → IsIn code i → IsIn code j → j ≡ i
  one_instance [] h x y = absurd x
  one_instance (v ∷ rest) h (inl e) (inl f) = same_Some j i (sym f ∙ e)
  one_instance (v ∷ rest) h (inl e) (inr (inl f)) = absurd (omega (arith, h, bears_same n i v.current e a, bears_same n j v.old f b))
  one_instance (v ∷ rest) h (inl e) (inr (inr y)) = absurd (omega (arith, h, bears_same n i v.current e a, counted_same n rest j y b))
  one_instance (v ∷ rest) h (inr (inl e)) (inl f) = absurd (omega (arith, h, bears_same n i v.old e a, bears_same n j v.current f b))
  one_instance (v ∷ rest) h (inr (inl e)) (inr (inl f)) = same_Some j i (sym f ∙ e)
  one_instance (v ∷ rest) h (inr (inl e)) (inr (inr y)) = absurd (omega (arith, h, bears_same n i v.old e a, counted_same n rest j y b))
  one_instance (v ∷ rest) h (inr (inr x)) (inl f) = absurd (omega (arith, h, counted_same n rest i x a, bears_same n j v.current f b))
  one_instance (v ∷ rest) h (inr (inr x)) (inr (inl f)) = absurd (omega (arith, h, counted_same n rest i x a, bears_same n j v.old f b))
  one_instance (v ∷ rest) h (inr (inr x)) (inr (inr y)) = one_instance rest (omega (arith, h)) x y

pub own_kin : (s : State) → Ordered s.code s.instances → IsEarlierCode s.code s
own_kin s o i x = (by (nat_lt s.instances i.number) refl, λ j y same. one_instance i.number i j refl same s.code (o i.number).0 x y)
  where
    by : (b : Bool) → nat_lt s.instances i.number ≡ b → i.number ≤ s.instances
    by false e = grind (arith, nat_tests)
    by true e =
        let above : s.instances < i.number = grind (arith, nat_tests) in
        absurd (omega (arith, counted s.code i x, (o i.number).1 above))

-- ---- the same numbers

equal : (m n : ℕ) → (m == n) ≡ true → n ≡ m
equal m n e = grind (arith, nat_tests)

-- instances of one number in two codes are one
abbrev Agree : Code → Code → Type 0
Agree code others = (i j : Instance) → IsIn code i → IsIn others j → j.number ≡ i.number → j ≡ i

same_instance : (code others : Code) (a b : Option Instance) → Agree code others → ((i : Instance) → a ≡ Some i → IsIn code i) → ((j : Instance) → b ≡ Some j → IsIn others j)
    → same_number a b ≡ true → a ≡ b
same_instance code others (Some i) (Some j) agree x y e = ap Some (sym (agree i j (x i refl) (y j refl) (equal i.number j.number e)))
same_instance code others None None agree x y e = refl
same_instance code others (Some i) None agree x y e = absurd cc
same_instance code others None (Some j) agree x y e = absurd cc

same_code : (code others : Code) → Agree code others → same_numbers code others ≡ true → code ≡ others
same_code [] [] agree e = refl
same_code [] (w ∷ others) agree e = absurd cc
same_code (v ∷ code) [] agree e = absurd cc
same_code (v ∷ code) (w ∷ others) agree e =
    let named = and_parts (same_text v.name w.name) (same_number v.current w.current && (same_number v.old w.old && same_numbers code others)) e in
    let current = and_parts (same_number v.current w.current) (same_number v.old w.old && same_numbers code others) named.1 in
    let old = and_parts (same_number v.old w.old) (same_numbers code others) current.1 in
    let name : v.name ≡ w.name = (bytes_eq-Decides v.name w.name).0 named.0 in
    let news : v.current ≡ w.current = same_instance (v ∷ code) (w ∷ others) v.current w.current agree (λ i x. inl x) (λ j y. inl y) current.0 in
    let olds : v.old ≡ w.old = same_instance (v ∷ code) (w ∷ others) v.old w.old agree (λ i x. inr (inl x)) (λ j y. inr (inl y)) old.0 in
    let rest : code ≡ others = same_code code others (λ i j x y. agree i j (inr (inr x)) (inr (inr y))) old.1 in
    ap (λ n. record v { name = n } ∷ code) name
    ∙ (ap (λ o. record { name = w.name; current = o; old = v.old } ∷ code) news
    ∙ (ap (λ o. record { name = w.name; current = w.current; old = o } ∷ code) olds
    ∙ ap (λ c. w ∷ c) rest))

pub is_same : (code : Code) (s : State) → IsEarlierCode code s → same_numbers code s.code ≡ true → code ≡ s.code
is_same code s k = same_code code s.code (λ i j x y e. (k i x).1 j y e)

own_number : (o : Option Instance) → same_number o o ≡ true
own_number None = refl
own_number (Some i) = grind (arith, nat_tests)

pub same_itself : (code : Code) → same_numbers code code ≡ true
same_itself [] = refl
same_itself (v ∷ rest) =
    ap (λ b. b && (same_number v.current v.current && (same_number v.old v.old && same_numbers rest rest))) (nat_list_eq_equiv.refl v.name)
    ∙ (ap (λ b. b && (same_number v.old v.old && same_numbers rest rest)) (own_number v.current)
    ∙ (ap (λ b. b && same_numbers rest rest) (own_number v.old) ∙ same_itself rest))
