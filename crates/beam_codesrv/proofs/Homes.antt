-- Where the listing of an instance is found, and that changes of modules keep it so.
use Rattle.std.proofs.Common.{◌≡◌, ℕ, zero, suc, ◌+◌, ◌≤◌, Bool, true, false, ◌==◌, ◌||◌, nat_lt, cond, not, List, [], ◌∷◌, length, slice_get, option_map, refl, sym, ap, subst, ◌∙◌, arith, Option, Some, None, option_and_then, unwrap_or, is_some, eqb-true}
use Rattle.std.proofs.lemmas.Bool.Decides.{nat_tests}
use Rattle.std.specs.Cmp.Lexicographic.{nat_list_eq_equiv}
use Rattle.std.specs.List.{IsDistinct, AllByRecursion}
use Rattle.std.specs.Map.{keys_of, lookup, set_value, remove_entry}
use Rattle.beam_lemmas.proofs.SameText.{text_is}
use Rattle.beam_lemmas.proofs.Tests.{itself}
use Rattle.indexmap.specs.IndexMap.{insert_entry}
use Rattle.beam_machine.specs.Prelude.{Code, Instance, versions_of, listing_in, listing_of, changed, deleted, purged, loaded, has_instance, with_versions, is_live, old_of, Versions}
use Rattle.beam_model.specs.Prelude.{Listing, same_text}
use Rattle.beam_laws.specs.Prelude.{bears, how_many}
use Rattle.beam_laws.proofs.Numbering.{counted, deleted_fewer, purged_fewer, loaded_one, one_at_most}
use Rattle.beam_codesrv.specs.Homes.{Pair, ModuleEntry, versions_in, code_of, number_of, with_change, has_any, put, is_bare, tidied, changed_in, old_number, dropped_of, Homes, with_home, without, IsIndexOf, AreNamedOnce}

-- ---- names

fresh : (eq : List ℕ → Bool) (ms : List ModuleEntry) → AllByRecursion (λ y. eq y ≡ false) (keys_of ms) → lookup eq ms ≡ None
fresh eq [] h = refl
fresh eq (m ∷ ms) h = ap (λ b. cond b (Some m.1) (lookup eq ms)) h.0 ∙ fresh eq ms h.1

pub named_once : (ms : List ModuleEntry) → IsDistinct same_text (keys_of ms) → AreNamedOnce ms
unfolding IsDistinct
named_once [] h = tt
named_once (m ∷ ms) h = (fresh (same_text m.0) ms h.0, named_once ms h.1)

-- ---- by name

flipped : (a b : List ℕ) → same_text a b ≡ same_text b a
flipped a b = nat_list_eq_equiv.symm a b

pub current_found : (ms : List ModuleEntry) (name : List ℕ) → (versions_of (code_of ms) name).current ≡ option_and_then (λ v. v.0) (lookup (same_text name) ms)
current_found [] name = refl
current_found (m ∷ ms) name =
    ap (λ b. (cond b (versions_in m) (versions_of (code_of ms) name)).current) (flipped m.0 name)
    ∙ elim (same_text name m.0) as (λ b. (cond b (versions_in m) (versions_of (code_of ms) name)).current ≡ option_and_then (λ v. v.0) (cond b (Some m.1) (lookup (same_text name) ms))) [
      | true ↦ refl
      | false ↦ current_found ms name
    ]

pub old_found : (ms : List ModuleEntry) (name : List ℕ) → (versions_of (code_of ms) name).old ≡ option_and_then (λ v. v.1) (lookup (same_text name) ms)
old_found [] name = refl
old_found (m ∷ ms) name =
    ap (λ b. (cond b (versions_in m) (versions_of (code_of ms) name)).old) (flipped m.0 name)
    ∙ elim (same_text name m.0) as (λ b. (cond b (versions_in m) (versions_of (code_of ms) name)).old ≡ option_and_then (λ v. v.1) (cond b (Some m.1) (lookup (same_text name) ms))) [
      | true ↦ refl
      | false ↦ old_found ms name
    ]

-- ---- changes of the modules

pub not_there : (f : Pair → Pair) (name : List ℕ) (ms : List ModuleEntry) → None ≡ lookup (same_text name) ms → ms ≡ with_change f name ms
not_there f name [] = λ e. refl
not_there f name (m ∷ ms) = elim (same_text name m.0) as (λ b. None ≡ cond b (Some m.1) (lookup (same_text name) ms) → m ∷ ms ≡ cond b ((m.0, f m.1) ∷ ms) (m ∷ with_change f name ms)) [
  | true ↦ λ e. cc
  | false ↦ λ e. ap (λ rest. m ∷ rest) (not_there f name ms e)
]

written : (f : Pair → Pair) (name : List ℕ) (ms : List ModuleEntry) (v : Pair) → Some v ≡ lookup (same_text name) ms → set_value (same_text name) ms (f v) ≡ with_change f name ms
written f name [] v = λ e. refl
written f name (m ∷ ms) v = elim (same_text name m.0) as (λ b. Some v ≡ cond b (Some m.1) (lookup (same_text name) ms) → cond b ((m.0, f v) ∷ ms) (m ∷ set_value (same_text name) ms (f v)) ≡ cond b ((m.0, f m.1) ∷ ms) (m ∷ with_change f name ms)) [
  | true ↦ λ e. ap (λ w. (m.0, f w) ∷ ms) (ap (λ o. unwrap_or o v) e)
  | false ↦ λ e. ap (λ rest. m ∷ rest) (written f name ms v e)
]

pub changed_there : (f : Pair → Pair) (name : List ℕ) (ms after : List ModuleEntry) (v w : Pair) → Some v ≡ lookup (same_text name) ms → after ≡ set_value (same_text name) ms w → w ≡ f v → after ≡ with_change f name ms
changed_there f name ms after v w there is moved = is ∙ (ap (set_value (same_text name) ms) moved ∙ written f name ms v there)

pub tidied_change : (f : Pair → Pair) (name : List ℕ) (ms : List ModuleEntry) → tidied name (with_change f name ms) ≡ changed_in f name ms
tidied_change f name [] = refl
tidied_change f name (m ∷ ms) = go (tidied_change f name ms) (same_text name m.0) refl
  where
    go : tidied name (with_change f name ms) ≡ changed_in f name ms → (b : Bool) → same_text name m.0 ≡ b → tidied name (cond {A = List ModuleEntry} b ((m.0, f m.1) ∷ ms) (m ∷ with_change f name ms)) ≡ cond {A = List ModuleEntry} b (put m.0 (f m.1) ms) (m ∷ changed_in f name ms)
    go k true e = ap (λ b. cond {A = List ModuleEntry} b (put m.0 (f m.1) ms) ((m.0, f m.1) ∷ tidied name ms)) e
    go k false e =
        ap (λ b. cond {A = List ModuleEntry} b (put m.0 m.1 (with_change f name ms)) (m ∷ tidied name (with_change f name ms))) e
        ∙ ap (λ rest. m ∷ rest) k

pub tidy_removed : (name : List ℕ) (ms : List ModuleEntry) → is_bare (lookup (same_text name) ms) ≡ true → remove_entry (same_text name) ms ≡ tidied name ms
tidy_removed name [] = λ e. refl
tidy_removed name (m ∷ ms) = elim (same_text name m.0) as (λ b. is_bare (cond b (Some m.1) (lookup (same_text name) ms)) ≡ true
    → cond {A = List ModuleEntry} b ms (m ∷ remove_entry (same_text name) ms) ≡ cond {A = List ModuleEntry} b (put m.0 m.1 ms) (m ∷ tidied name ms)) [
      | true ↦ elim (has_any m.1) as (λ b. not b ≡ true → ms ≡ cond {A = List ModuleEntry} b (m ∷ ms) ms) [ true ↦ λ e. cc | false ↦ λ e. refl ]
      | false ↦ λ e. ap (λ rest. m ∷ rest) (tidy_removed name ms e)
    ]

pub tidy_kept : (name : List ℕ) (ms : List ModuleEntry) → is_bare (lookup (same_text name) ms) ≡ false → ms ≡ tidied name ms
tidy_kept name [] = λ e. refl
tidy_kept name (m ∷ ms) = elim (same_text name m.0) as (λ b. is_bare (cond b (Some m.1) (lookup (same_text name) ms)) ≡ false
    → m ∷ ms ≡ cond {A = List ModuleEntry} b (put m.0 m.1 ms) (m ∷ tidied name ms)) [
      | true ↦ elim (has_any m.1) as (λ b. not b ≡ false → m ∷ ms ≡ cond {A = List ModuleEntry} b (m ∷ ms) ms) [ true ↦ λ e. refl | false ↦ λ e. cc ]
      | false ↦ λ e. ap (λ rest. m ∷ rest) (tidy_kept name ms e)
    ]

-- ---- changes of the code

-- a name that isn't there has no instance
nameless : (ms : List ModuleEntry) (name : List ℕ) → lookup (same_text name) ms ≡ None → has_instance (versions_of (code_of ms) name) ≡ false
nameless ms name none =
    ap (λ o. is_some o || is_some (versions_of (code_of ms) name).old) (current_found ms name ∙ ap (option_and_then (λ v. v.0)) none)
    ∙ ap is_some (old_found ms name ∙ ap (option_and_then (λ v. v.1)) none)

or_false : (a b : Bool) → b ≡ false → (a || b) ≡ a
or_false true b e = refl
or_false false b e = e

kept_out : (b : Bool) (m : ModuleEntry) (ms : List ModuleEntry) → cond {A = Code} b (versions_in m ∷ code_of ms) (code_of ms) ≡ code_of (cond {A = List ModuleEntry} b (m ∷ ms) ms)
kept_out true m ms = refl
kept_out false m ms = refl

pub changed_is : (change : Versions → Versions) (f : Pair → Pair) → ((m : ModuleEntry) → change (versions_in m) ≡ versions_in (m.0, f m.1))
    → (ms : List ModuleEntry) (name : List ℕ) → AreNamedOnce ms → changed change (code_of ms) name ≡ code_of (changed_in f name ms)
changed_is change f is [] name once = refl
changed_is change f is (m ∷ ms) name once =
    ap (λ b. cond {A = Code} b (with_versions name (change (versions_in m)) (code_of ms)) (versions_in m ∷ changed change (code_of ms) name)) (flipped m.0 name)
    ∙ go (changed_is change f is ms name once.1) (same_text name m.0) refl
  where
    go : changed change (code_of ms) name ≡ code_of (changed_in f name ms) → (b : Bool) → same_text name m.0 ≡ b
        → cond {A = Code} b (with_versions name (change (versions_in m)) (code_of ms)) (versions_in m ∷ changed change (code_of ms) name) ≡ code_of (cond {A = List ModuleEntry} b (put m.0 (f m.1) ms) (m ∷ changed_in f name ms))
    go k true e =
        let alone : has_instance (versions_of (code_of ms) name) ≡ false = nameless ms name (subst (λ x. lookup (same_text x) ms ≡ None) (sym (text_is name m.0 e)) once.0) in
        ap (λ v. with_versions name v (code_of ms)) (is m)
        ∙ (ap (λ b. cond {A = Code} b (versions_in (m.0, f m.1) ∷ code_of ms) (code_of ms)) (or_false (has_any (f m.1)) (has_instance (versions_of (code_of ms) name)) alone)
        ∙ kept_out (has_any (f m.1)) (m.0, f m.1) ms)
    go k false e = ap (λ rest. versions_in m ∷ rest) k

-- a module that is there
pub loaded_again : (i : Instance) (ms : List ModuleEntry) → is_some (lookup (same_text i.listing.name) ms) ≡ true
    → loaded (code_of ms) i.number i.listing ≡ code_of (with_change (λ v. (Some i, v.0)) i.listing.name ms)
loaded_again i [] = λ there. cc
loaded_again i (m ∷ ms) = λ there.
    ap (λ b. cond b (versions_in (m.0, (Some i, m.1.0)) ∷ code_of ms) (versions_in m ∷ loaded (code_of ms) i.number i.listing)) (flipped m.0 i.listing.name)
    ∙ (elim (same_text i.listing.name m.0) as (λ b. is_some (cond b (Some m.1) (lookup (same_text i.listing.name) ms)) ≡ true
    → cond b (versions_in (m.0, (Some i, m.1.0)) ∷ code_of ms) (versions_in m ∷ loaded (code_of ms) i.number i.listing) ≡ code_of (cond b ((m.0, (Some i, m.1.0)) ∷ ms) (m ∷ with_change (λ v. (Some i, v.0)) i.listing.name ms))) [
      | true ↦ λ t. refl
      | false ↦ λ t. ap (λ rest. versions_in m ∷ rest) (loaded_again i ms t)
    ]) there

-- a new module
pub loaded_first : (i : Instance) (ms : List ModuleEntry) → is_some (lookup (same_text i.listing.name) ms) ≡ false
    → loaded (code_of ms) i.number i.listing ≡ code_of (insert_entry same_text ms i.listing.name (Some i, None))
loaded_first i [] = λ new. refl
loaded_first i (m ∷ ms) = λ new.
    ap (λ b. cond b (versions_in (m.0, (Some i, m.1.0)) ∷ code_of ms) (versions_in m ∷ loaded (code_of ms) i.number i.listing)) (flipped m.0 i.listing.name)
    ∙ (elim (same_text i.listing.name m.0) as (λ b. is_some (cond b (Some m.1) (lookup (same_text i.listing.name) ms)) ≡ false
    → cond b (versions_in (m.0, (Some i, m.1.0)) ∷ code_of ms) (versions_in m ∷ loaded (code_of ms) i.number i.listing) ≡ code_of (cond b ((m.0, (Some i, None)) ∷ ms) (m ∷ insert_entry same_text ms i.listing.name (Some i, None)))) [
      | true ↦ λ n. cc
      | false ↦ λ n. ap (λ rest. versions_in m ∷ rest) (loaded_first i ms n)
    ]) new

-- ---- by number

pub live_is : (home : Homes) (n : ℕ) (code : Code) → IsIndexOf home code → is_some (home n) ≡ is_live code n
live_is home n code h = ap is_some (h.homes n)

-- the listing of a number among those of a module and the rest
abbrev listed : Versions → ℕ → Option Listing → Option Listing
listed v n rest = listing_in v.current n (listing_in v.old n rest)

pub missed : (n : ℕ) (o : Option Instance) (rest : Option Listing) → bears n o ≡ 0 → listing_in o n rest ≡ rest
missed n None rest z = refl
missed n (Some i) rest z = go (i.number == n) refl
  where
    go : (b : Bool) → (i.number == n) ≡ b → cond b (Some i.listing) rest ≡ rest
    go true e =
        let one : bears n (Some i) ≡ 1 = ap (λ b. cond b 1 0) e in
        absurd (omega (arith, one, z))
    go false e = refl

missed_both : (n : ℕ) (v : Versions) (rest : Option Listing) → bears n v.current + bears n v.old ≡ 0 → listed v n rest ≡ rest
missed_both n v rest z = missed n v.current (listing_in v.old n rest) (omega (arith, z)) ∙ missed n v.old rest (omega (arith, z))

none_listed : (n : ℕ) (code : Code) → how_many n code ≡ 0 → listing_of code n ≡ None
none_listed n [] z = refl
none_listed n (v ∷ rest) z = missed_both n v (listing_of rest n) (omega (arith, z)) ∙ none_listed n rest (omega (arith, z))

-- a number without a listing is the number of no instance
free_number : (number : ℕ) (code : Code) → listing_of code number ≡ None → how_many number code ≡ 0
free_number number code none = go (how_many number code) refl
  where
    go : (k : ℕ) → how_many number code ≡ k → how_many number code ≡ 0
    go zero e = e
    go (suc k) e = clash (sym (ap is_some none) ∙ (counted number code ∙ ap (nat_lt 0) e))
      where
        clash : false ≡ nat_lt 0 (suc k) → how_many number code ≡ 0
        clash q =
            let positive : nat_lt 0 (suc k) ≡ true = grind (arith, nat_tests) in
            let never : false ≡ true = q ∙ positive in
            cc

-- ---- homes after a change

-- the old instance of a module is counted
borne : (code : Code) (name : List ℕ) (d : ℕ) → old_of code name ≡ Some d → 1 ≤ how_many d code
borne [] name d = λ e. cc
borne (v ∷ rest) name d = elim (same_text v.name name) as (λ b. number_of (cond b v (versions_of rest name)).old ≡ Some d → 1 ≤ how_many d (v ∷ rest)) [
  | true ↦ λ e. omega (arith, old v.old e)
  | false ↦ λ e. omega (arith, borne rest name d e)
]
  where
    old : (o : Option Instance) → number_of o ≡ Some d → bears d o ≡ 1
    old None e = cc
    old (Some j) e = ap (λ b. cond b 1 0) (ap (λ x. x == d) (ap (λ o. unwrap_or o 0) e) ∙ itself d)

without_at : (o : Option ℕ) (h k : Homes) (n : ℕ) → h n ≡ k n → without o h n ≡ without o k n
without_at None h k n e = e
without_at (Some d) h k n e = ap (cond (d == n) None) e

-- the old instance of the first module goes
old_goes : (n : ℕ) (v : Versions) (rest : Code) → how_many n (v ∷ rest) ≤ 1
    → listing_in v.current n (listing_of rest n) ≡ without (number_of v.old) (listing_of (v ∷ rest)) n
old_goes n v rest once = go v.old once
  where
    go : (o : Option Instance) → bears n v.current + (bears n o + how_many n rest) ≤ 1
        → listing_in v.current n (listing_of rest n) ≡ without (number_of o) (λ k. listing_in v.current k (listing_in o k (listing_of rest k))) n
    go None once = refl
    go (Some j) once = at (j.number == n) once
      where
        at : (b : Bool) → bears n v.current + (cond b 1 0 + how_many n rest) ≤ 1
            → listing_in v.current n (listing_of rest n) ≡ cond b None (listing_in v.current n (cond b (Some j.listing) (listing_of rest n)))
        at true once = missed n v.current (listing_of rest n) (omega (arith, once)) ∙ none_listed n rest (omega (arith, once))
        at false once = refl

-- an instance of a module after the first one goes
behind_goes : (n : ℕ) (v : Versions) (o : Option ℕ) (h k : Homes) (x : Option Listing) → (o ≡ Some n → bears n v.current + bears n v.old ≡ 0) → listed v n (h n) ≡ k n
    → x ≡ without o h n → listed v n x ≡ without o k n
behind_goes n v None h k x other is e = ap (listed v n) e ∙ is
behind_goes n v (Some d) h k x other is e = go (d == n) refl e
  where
    go : (b : Bool) → (d == n) ≡ b → x ≡ cond b None (h n) → listed v n x ≡ cond b None (k n)
    go true q e = ap (listed v n) e ∙ missed_both n v None (other (ap Some (eqb-true d n q)))
    go false q e = ap (listed v n) e ∙ is

-- the old instance of a later module is no instance of the first module
elsewhere : (n : ℕ) (v : Versions) (rest : Code) (name : List ℕ) → how_many n (v ∷ rest) ≤ 1 → old_of rest name ≡ Some n → bears n v.current + bears n v.old ≡ 0
elsewhere n v rest name once e = omega (arith, once, borne rest name n e)

-- a change that leaves a module only the instance that was current
abbrev LeavesCurrent : (Versions → Versions) → Type 0
LeavesCurrent change = (v : Versions) (n : ℕ) (rest : Option Listing) → listed (change v) n rest ≡ listing_in v.current n rest

no_listing : (v : Versions) (n : ℕ) (rest : Option Listing) → has_instance v ≡ false → listed v n rest ≡ rest
no_listing v n rest e = go v.current v.old e
  where
    go : (a b : Option Instance) → (is_some a || is_some b) ≡ false → listing_in a n (listing_in b n rest) ≡ rest
    go None None e = refl
    go None (Some j) e = cc
    go (Some i) b e = cc

listed_with : (name : List ℕ) (v : Versions) (rest : Code) (n : ℕ) → listing_of (with_versions name v rest) n ≡ listed v n (listing_of rest n)
listed_with name v rest n = go (has_instance v) (has_instance (versions_of rest name)) refl
  where
    go : (a b : Bool) → has_instance v ≡ a → listing_of (cond {A = Code} (a || b) (v ∷ rest) rest) n ≡ listed v n (listing_of rest n)
    go true b e = refl
    go false true e = refl
    go false false e = sym (no_listing v n (listing_of rest n) e)

changed_homes : (change : Versions → Versions) → LeavesCurrent change → (code : Code) (name : List ℕ) (n : ℕ) → how_many n code ≤ 1
    → listing_of (changed change code name) n ≡ without (old_of code name) (listing_of code) n
changed_homes change leaves [] name n once = refl
changed_homes change leaves (v ∷ rest) name n once = go (changed_homes change leaves rest name n (omega (arith, once))) (same_text v.name name)
  where
    go : listing_of (changed change rest name) n ≡ without (old_of rest name) (listing_of rest) n
        → (b : Bool) → listing_of (cond {A = Code} b (with_versions name (change v) rest) (v ∷ changed change rest name)) n
        ≡ without (number_of (cond {A = Versions} b v (versions_of rest name)).old) (listing_of (v ∷ rest)) n
    go k true = listed_with name (change v) rest n ∙ (leaves v n (listing_of rest n) ∙ old_goes n v rest once)
    go k false =
        behind_goes n v (old_of rest name) (listing_of rest) (listing_of (v ∷ rest)) (listing_of (changed change rest name) n) (elsewhere n v rest name once) refl k

-- ---- homes after a load

-- a new number differs from the number of each instance that is there
new_behind : (number : ℕ) (l : Listing) (n : ℕ) (v : Versions) (rest : Option Listing) → bears number v.current + bears number v.old ≡ 0
    → listed v n (cond (number == n) (Some l) rest) ≡ cond (number == n) (Some l) (listed v n rest)
new_behind number l n v rest free = go (number == n) refl
  where
    go : (b : Bool) → (number == n) ≡ b → listed v n (cond b (Some l) rest) ≡ cond b (Some l) (listed v n rest)
    go true e = missed_both n v (Some l) (subst (λ x. bears x v.current + bears x v.old ≡ 0) (eqb-true number n e) free)
    go false e = refl

-- the new instance of the first module comes, and the old one goes
new_comes : (number : ℕ) (l : Listing) (n : ℕ) (v : Versions) (rest : Code) → how_many number (v ∷ rest) ≡ 0 → how_many n (v ∷ rest) ≤ 1
    → cond (number == n) (Some l) (listing_in v.current n (listing_of rest n)) ≡ without (number_of v.old) (with_home number l (listing_of (v ∷ rest))) n
new_comes number l n v rest free once = go v.old free once
  where
    there : Option Listing
    there = listing_in v.current n (listing_of rest n)

    go : (o : Option Instance) → bears number v.current + (bears number o + how_many number rest) ≡ 0 → bears n v.current + (bears n o + how_many n rest) ≤ 1
        → cond (number == n) (Some l) there ≡ without (number_of o) (with_home number l (λ k. listing_in v.current k (listing_in o k (listing_of rest k)))) n
    go None free once = refl
    go (Some j) free once = at (j.number == n) refl once
      where
        at : (b : Bool) → (j.number == n) ≡ b → bears n v.current + (cond b 1 0 + how_many n rest) ≤ 1
            → cond (number == n) (Some l) there ≡ cond b None (cond (number == n) (Some l) (listing_in v.current n (cond b (Some j.listing) (listing_of rest n))))
        at false e once = refl
        at true e once =
            new (number == n) refl ∙ (missed n v.current (listing_of rest n) (omega (arith, once)) ∙ none_listed n rest (omega (arith, once)))
          where
            new : (c : Bool) → (number == n) ≡ c → cond c (Some l) there ≡ there
            new false q = refl
            new true q =
                let one : bears number (Some j) ≡ 1 = subst (λ x. bears x (Some j) ≡ 1) (sym (eqb-true number n q)) (ap (λ b. cond b 1 0) e) in
                absurd (omega (arith, one, free))

loaded_homes : (number : ℕ) (l : Listing) (code : Code) (n : ℕ) → how_many number code ≡ 0 → how_many n code ≤ 1
    → listing_of (loaded code number l) n ≡ without (old_of code l.name) (with_home number l (listing_of code)) n
loaded_homes number l [] n free once = refl
loaded_homes number l (v ∷ rest) n free once = go (loaded_homes number l rest n (omega (arith, free)) (omega (arith, once))) (same_text v.name l.name)
  where
    new : Versions
    new = record v { current = Some (record { number = number; listing = l }); old = v.current }

    go : listing_of (loaded rest number l) n ≡ without (old_of rest l.name) (with_home number l (listing_of rest)) n
        → (b : Bool) → listing_of (cond {A = Code} b (new ∷ rest) (v ∷ loaded rest number l)) n
        ≡ without (number_of (cond {A = Versions} b v (versions_of rest l.name)).old) (with_home number l (listing_of (v ∷ rest))) n
    go k true = new_comes number l n v rest free once
    go k false =
        behind_goes n v (old_of rest l.name) (with_home number l (listing_of rest)) (with_home number l (listing_of (v ∷ rest))) (listing_of (loaded rest number l) n)
        (elsewhere n v rest l.name once) (new_behind number l n v (listing_of rest n) (omega (arith, free))) k

-- ---- the table

dropped_is : (name : List ℕ) (ms : List ModuleEntry) → dropped_of name ms ≡ old_of (code_of ms) name
dropped_is name ms = go (lookup (same_text name) ms) ∙ ap number_of (sym (old_found ms name))
  where
    go : (o : Option Pair) → option_and_then old_number o ≡ number_of (option_and_then (λ v. v.1) o)
    go None = refl
    go (Some v) = refl

changed_stands : (change : Versions → Versions) (f : Pair → Pair) → ((m : ModuleEntry) → change (versions_in m) ≡ versions_in (m.0, f m.1)) → LeavesCurrent change
    → ((n : ℕ) (code : Code) (name : List ℕ) → how_many n (changed change code name) ≤ how_many n code)
    → (home new : Homes) (dropped : Option ℕ) (name : List ℕ) (ms after : List ModuleEntry) → AreNamedOnce ms → IsIndexOf home (code_of ms) → dropped ≡ dropped_of name ms → after ≡ changed_in f name ms
    → ((n : ℕ) → new n ≡ without dropped home n) → IsIndexOf new (code_of after)
changed_stands change f is leaves fewer home new dropped name ms after named h d a homes =
    let same : code_of after ≡ changed change (code_of ms) name = ap code_of a ∙ sym (changed_is change f is ms name named) in
    record {
      homes = λ n.
          homes n
          ∙ (ap (λ o. without o home n) (d ∙ dropped_is name ms)
          ∙ (without_at (old_of (code_of ms) name) home (listing_of (code_of ms)) n (h.homes n)
          ∙ (sym (changed_homes change leaves (code_of ms) name n (h.once n)) ∙ ap (λ c. listing_of c n) (sym same))));
      once = λ n.
          let count : how_many n (code_of after) ≡ how_many n (changed change (code_of ms) name) = ap (how_many n) same in
          omega (arith, count, fewer n (code_of ms) name, h.once n);
    }

pub deleted_stands : (home new : Homes) (dropped : Option ℕ) (name : List ℕ) (ms after : List ModuleEntry) → AreNamedOnce ms → IsIndexOf home (code_of ms) → dropped ≡ dropped_of name ms
    → after ≡ changed_in (λ v. (None, v.0)) name ms → ((n : ℕ) → new n ≡ without dropped home n) → IsIndexOf new (code_of after)
deleted_stands = changed_stands (λ v. record v { current = None; old = v.current }) (λ v. (None, v.0)) (λ m. refl) (λ v n rest. refl) deleted_fewer

pub purged_stands : (home new : Homes) (dropped : Option ℕ) (name : List ℕ) (ms after : List ModuleEntry) → AreNamedOnce ms → IsIndexOf home (code_of ms) → dropped ≡ dropped_of name ms
    → after ≡ changed_in (λ v. (v.0, None)) name ms → ((n : ℕ) → new n ≡ without dropped home n) → IsIndexOf new (code_of after)
purged_stands = changed_stands (λ v. record v { old = None }) (λ v. (v.0, None)) (λ m. refl) (λ v n rest. refl) purged_fewer

pub deleted_code : (name : List ℕ) (ms after : List ModuleEntry) (code : Code) → code_of ms ≡ code → AreNamedOnce ms → after ≡ changed_in (λ v. (None, v.0)) name ms → code_of after ≡ deleted code name
deleted_code name ms after code view named a =
    ap code_of a
    ∙ (sym (changed_is (λ v. record v { current = None; old = v.current }) (λ v. (None, v.0)) (λ m. refl) ms name named) ∙ ap (λ c. deleted c name) view)

pub purged_code : (name : List ℕ) (ms after : List ModuleEntry) (code : Code) → code_of ms ≡ code → AreNamedOnce ms → after ≡ changed_in (λ v. (v.0, None)) name ms → code_of after ≡ purged code name
purged_code name ms after code view named a =
    ap code_of a
    ∙ (sym (changed_is (λ v. record v { old = None }) (λ v. (v.0, None)) (λ m. refl) ms name named) ∙ ap (λ c. purged c name) view)

-- ---- a load

one_more : (i : Instance) (l : Listing) (code new : Code) → i.listing ≡ l → new ≡ loaded code i.number l → how_many i.number code ≡ 0 → ((n : ℕ) → how_many n code ≤ 1) → (n : ℕ) → how_many n new ≤ 1
one_more i l code new same is free once n = go (i.number == n) refl
  where
    count : how_many n new ≡ how_many n (loaded code i.number l)
    count = ap (how_many n) is

    go : (b : Bool) → (i.number == n) ≡ b → how_many n new ≤ 1
    go true e =
        let none : how_many n code ≡ 0 = subst (λ x. how_many x code ≡ 0) (eqb-true i.number n e) free in
        omega (arith, count, loaded_one n i.number l code, one_at_most n i.number l, none)
    go false e =
        let other : bears n (Some (record { number = i.number; listing = l })) ≡ 0 = ap (λ b. cond b 1 0) e in
        omega (arith, count, loaded_one n i.number l code, other, once n)

pub again_code : (i : Instance) (l : Listing) (name : List ℕ) (ms after : List ModuleEntry) (code : Code) → code_of ms ≡ code → i.listing ≡ l → name ≡ l.name
    → true ≡ is_some (lookup (same_text name) ms) → after ≡ with_change (λ v. (Some i, v.0)) name ms → code_of after ≡ loaded code i.number l
again_code i l name ms after code view shared named there is =
    let own : name ≡ i.listing.name = named ∙ ap (λ x. x.name) (sym shared) in
    ap code_of (is ∙ ap (λ n. with_change (λ v. (Some i, v.0)) n ms) own)
    ∙ (sym (loaded_again i ms (ap (λ n. is_some (lookup (same_text n) ms)) (sym own) ∙ sym there)) ∙ (λ j. loaded (view j) i.number (shared j)))

pub first_code : (i : Instance) (l : Listing) (name : List ℕ) (ms after : List ModuleEntry) (code : Code) → code_of ms ≡ code → i.listing ≡ l → name ≡ l.name
    → false ≡ is_some (lookup (same_text name) ms) → after ≡ insert_entry same_text ms name (Some i, None) → code_of after ≡ loaded code i.number l
first_code i l name ms after code view shared named none is =
    let own : name ≡ i.listing.name = named ∙ ap (λ x. x.name) (sym shared) in
    ap code_of (is ∙ ap (λ n. insert_entry same_text ms n (Some i, None)) own)
    ∙ (sym (loaded_first i ms (ap (λ n. is_some (lookup (same_text n) ms)) (sym own) ∙ sym none)) ∙ (λ j. loaded (view j) i.number (shared j)))

-- the homes of the code with a new instance of a number that no other has
loaded_stands : (home new : Homes) (i : Instance) (code after : Code) → IsIndexOf home code → listing_of code i.number ≡ None → after ≡ loaded code i.number i.listing
    → ((n : ℕ) → new n ≡ without (old_of code i.listing.name) (with_home i.number i.listing home) n) → IsIndexOf new after
loaded_stands home new i code after h fresh is homes =
    let free : how_many i.number code ≡ 0 = free_number i.number code fresh in
    record {
      homes = λ n.
          homes n
          ∙ (without_at (old_of code i.listing.name) (with_home i.number i.listing home) (with_home i.number i.listing (listing_of code)) n (ap (cond (i.number == n) (Some i.listing)) (h.homes n))
          ∙ (sym (loaded_homes i.number i.listing code n free (h.once n)) ∙ ap (λ c. listing_of c n) (sym is)));
      once = one_more i i.listing code after refl is free h.once;
    }

pub again_stands : (home new : Homes) (i : Instance) (name : List ℕ) (ms after : List ModuleEntry) (code : Code) → code_of ms ≡ code → IsIndexOf home (code_of ms) → listing_of code i.number ≡ None
    → name ≡ i.listing.name → true ≡ is_some (lookup (same_text name) ms) → after ≡ with_change (λ v. (Some i, v.0)) name ms
    → ((n : ℕ) → new n ≡ without (dropped_of name ms) (with_home i.number i.listing home) n) → IsIndexOf new (code_of after)
again_stands home new i name ms after code view h fresh named there is homes =
    loaded_stands home new i (code_of ms) (code_of after) h (ap (λ c. listing_of c i.number) view ∙ fresh)
    (again_code i i.listing name ms after (code_of ms) refl refl named there is)
    (λ n. homes n ∙ ap (λ o. without o (with_home i.number i.listing home) n) (dropped_is name ms ∙ ap (old_of (code_of ms)) named))

pub first_stands : (home new : Homes) (i : Instance) (name : List ℕ) (ms after : List ModuleEntry) (code : Code) → code_of ms ≡ code → IsIndexOf home (code_of ms) → listing_of code i.number ≡ None
    → name ≡ i.listing.name → false ≡ is_some (lookup (same_text name) ms) → after ≡ insert_entry same_text ms name (Some i, None)
    → ((n : ℕ) → new n ≡ with_home i.number i.listing home n) → IsIndexOf new (code_of after)
first_stands home new i name ms after code view h fresh named none is homes =
    loaded_stands home new i (code_of ms) (code_of after) h (ap (λ c. listing_of c i.number) view ∙ fresh)
    (first_code i i.listing name ms after (code_of ms) refl refl named none is)
    (λ n. homes n ∙ ap (λ o. without o (with_home i.number i.listing home) n) (sym (nothing_old (lookup (same_text name) ms) (sym none)) ∙ (dropped_is name ms ∙ ap (old_of (code_of ms)) named)))
  where
    nothing_old : (o : Option Pair) → is_some o ≡ false → option_and_then old_number o ≡ None
    nothing_old None e = refl
    nothing_old (Some v) e = cc

-- ---- by index

pub as_many : (ms : List ModuleEntry) → length (code_of ms) ≡ length ms
as_many [] = refl
as_many (m ∷ ms) = ap suc (as_many ms)

pub at_index : (ms : List ModuleEntry) (i : ℕ) → slice_get (code_of ms) i ≡ option_map versions_in (slice_get ms i)
at_index [] i = refl
at_index (m ∷ ms) zero = refl
at_index (m ∷ ms) (suc i) = at_index ms i
