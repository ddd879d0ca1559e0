-- A place that is looked up in code lies in a live instance.
use Rattle.std.proofs.Common.{◌≡◌, ℕ, ◌==◌, ◌||◌, cond, eq-eqb, Bool, true, false, IsTrue, List, [], ◌∷◌, refl, sym, ap, subst, ◌∙◌, Option, Some, None, is_some, option_map, option_and_then}
use Rattle.std.specs.Cmp.Lexicographic.{nat_list_eq_equiv}
use Rattle.beam_lemmas.proofs.Options.{not_some}
use Rattle.beam_machine.specs.Prelude.{Instance, Code, versions_of, listing_in, listing_of, entry_in, entry_of, has_instance, with_versions, is_live, Versions}
use Rattle.beam_model.specs.Prelude.{Listing, entry_at, same_text}
use Rattle.beam_laws.proofs.LivePlaces.{IsLivePlace}

-- neither of two truths holds
pub left_false : (a b : Bool) → (a || b) ≡ false → a ≡ false
left_false true b = λ e. e
left_false false b = λ e. refl

pub right_false : (a b : Bool) → (a || b) ≡ false → b ≡ false
right_false true b = λ e. cc
right_false false b = λ e. e

-- a listing that is found in the rest is found in the whole
pub behind : (a : Option Instance) (k : ℕ) (o p : Option Listing) → (IsTrue (is_some o) → IsTrue (is_some p)) → IsTrue (is_some (listing_in a k o)) → IsTrue (is_some (listing_in a k p))
behind None k o p f = λ h. f h
behind (Some i) k o p f =
    elim (i.number == k) as (λ b. IsTrue (is_some (cond b (Some i.listing) o)) → IsTrue (is_some (cond b (Some i.listing) p))) [ true ↦ λ h. refl | false ↦ λ h. f h ]

pub more_live : (a : Option Instance) (k : ℕ) (o : Option Listing) → IsTrue (is_some o) → IsTrue (is_some (listing_in a k o))
more_live None k o h = h
more_live (Some i) k o h =
    elim (i.number == k) as (λ b. IsTrue (is_some (cond b (Some i.listing) o))) [ true ↦ refl | false ↦ h ]

pub itself_live : (i : Instance) (o : Option Listing) → IsTrue (is_some (listing_in (Some i) i.number o))
itself_live i o = ap (λ b. is_some (cond b (Some i.listing) o)) (eq-eqb i.number i.number refl)

current_live : (code : Code) (name : List ℕ) (i : Instance) → (versions_of code name).current ≡ Some i → IsTrue (is_live code i.number)
current_live [] name i = λ e. cc
current_live (v ∷ rest) name i =
    elim (same_text v.name name) as (λ b. (cond b v (versions_of rest name)).current ≡ Some i → IsTrue (is_live (v ∷ rest) i.number)) [
      | true ↦ λ e. subst (λ o. IsTrue (is_some (listing_in o i.number (listing_in v.old i.number (listing_of rest i.number))))) (sym e) (itself_live i (listing_in v.old i.number (listing_of rest i.number)))
      | false ↦ λ e. more_live v.current i.number (listing_in v.old i.number (listing_of rest i.number)) (more_live v.old i.number (listing_of rest i.number) (current_live rest name i e))
    ]

placed_live : (code : Code) (k : ℕ) (at : Option ℕ) → IsTrue (is_live code k) → IsLivePlace code (option_map (λ at. record { instance = k; at = at }) at)
placed_live code k None h = tt
placed_live code k (Some at) h = h

pub entry_live : (code : Code) (name function : List ℕ) (arity : ℕ) → IsLivePlace code (entry_of code name function arity)
unfolding entry_of
entry_live code name function arity = go (versions_of code name).current refl
  where
    go : (o : Option Instance) → (versions_of code name).current ≡ o → IsLivePlace code (option_and_then (λ i. entry_in i function arity) o)
    go None e = tt
    go (Some i) e = placed_live code i.number (entry_at i.listing function arity) (current_live code name i e)

-- ---- versions before the rest of the code

no_current : (v : Versions) → has_instance v ≡ false → v.current ≡ None
no_current v e = not_some v.current (left_false (is_some v.current) (is_some v.old) e)

no_old : (v : Versions) → has_instance v ≡ false → v.old ≡ None
no_old v e = not_some v.old (right_false (is_some v.current) (is_some v.old) e)

pub current_with : (name : List ℕ) (v : Versions) (rest : Code) → same_text v.name name ≡ true → (versions_of (with_versions name v rest) name).current ≡ v.current
current_with name v rest e = go (has_instance v || has_instance (versions_of rest name)) refl
  where
    go : (b : Bool) → (has_instance v || has_instance (versions_of rest name)) ≡ b → (versions_of (cond {A = Code} b (v ∷ rest) rest) name).current ≡ v.current
    go true f = ap (λ b. (cond {A = Versions} b v (versions_of rest name)).current) e
    go false f =
        no_current (versions_of rest name) (right_false (has_instance v) (has_instance (versions_of rest name)) f)
        ∙ sym (no_current v (left_false (has_instance v) (has_instance (versions_of rest name)) f))

pub old_with : (name : List ℕ) (v : Versions) (rest : Code) → same_text v.name name ≡ true → (versions_of (with_versions name v rest) name).old ≡ v.old
old_with name v rest e = go (has_instance v || has_instance (versions_of rest name)) refl
  where
    go : (b : Bool) → (has_instance v || has_instance (versions_of rest name)) ≡ b → (versions_of (cond {A = Code} b (v ∷ rest) rest) name).old ≡ v.old
    go true f = ap (λ b. (cond {A = Versions} b v (versions_of rest name)).old) e
    go false f =
        no_old (versions_of rest name) (right_false (has_instance v) (has_instance (versions_of rest name)) f)
        ∙ sym (no_old v (left_false (has_instance v) (has_instance (versions_of rest name)) f))

pub others_with : (name other : List ℕ) (v : Versions) (rest : Code) → same_text v.name name ≡ true → same_text name other ≡ false
    → versions_of (with_versions name v rest) other ≡ versions_of rest other
others_with name other v rest e apart = go (has_instance v || has_instance (versions_of rest name))
  where
    another : same_text v.name other ≡ false
    another = nat_list_eq_equiv.congr v.name name other e ∙ apart

    go : (b : Bool) → versions_of (cond {A = Code} b (v ∷ rest) rest) other ≡ versions_of rest other
    go true = ap (λ b. cond {A = Versions} b v (versions_of rest other)) another
    go false = refl

no_listing : (a b : Option Instance) (k : ℕ) (o : Option Listing) → (is_some a || is_some b) ≡ false → listing_in a k (listing_in b k o) ≡ o
no_listing None None k o e = refl
no_listing None (Some j) k o e = cc
no_listing (Some i) b k o e = cc

-- an instance of the versions or of the rest is live
pub live_with : (name : List ℕ) (v : Versions) (rest : Code) (k : ℕ) → IsTrue (is_some (listing_in v.current k (listing_in v.old k (listing_of rest k)))) → IsTrue (is_live (with_versions name v rest) k)
live_with name v rest k h = go (has_instance v || has_instance (versions_of rest name)) refl
  where
    go : (b : Bool) → (has_instance v || has_instance (versions_of rest name)) ≡ b → IsTrue (is_live (cond {A = Code} b (v ∷ rest) rest) k)
    go true f = h
    go false f =
        subst (λ o. IsTrue (is_some o)) (no_listing v.current v.old k (listing_of rest k) (left_false (has_instance v) (has_instance (versions_of rest name)) f)) h
