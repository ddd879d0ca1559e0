-- An exported function begins where an assignment has no y registers.
use Rattle.std.proofs.Common.{◌≡◌, ℕ, ◌≤◌, ◌==◌, ◌&&◌, ◌||◌, Bool, true, false, cond, List, [], ◌∷◌, ◌++◌, refl, sym, ap, subst, ◌∙◌, true≢false, append_assoc, arith, eqb-true, Option, Some, None, option_map, option_and_then}
use Rattle.std.proofs.lemmas.Bool.{and_parts}
use Rattle.std.proofs.lemmas.Bool.Decides.{nat_tests}
use Rattle.std.specs.List.{list_all, list_any}
use Rattle.std.proofs.lemmas.Option.{same_Some}
use Rattle.beam_machine.specs.Prelude.{Code, Instance, versions_of, listing_in, listing_of, entry_in, entry_of}
use Rattle.beam_model.specs.declared.function.Export.{Export}
use Rattle.beam_model.specs.declared.function.Function.{Function}
use Rattle.beam_model.specs.declared.instruction.Instruction.{Instruction}
use Rattle.beam_model.specs.Prelude.{begins_bare, entries, entry_by, label, func_info, IsFunction, AreFunctions, IsWellFormed, Listing, row_of_label, is_export, export_of, exported, is_entry, is_entry_of, Place, same_text}
use Rattle.beam_laws.specs.Prelude.{bears, how_many}
use Rattle.beam_laws.proofs.Kinship.{bears_own}
use Rattle.beam_shape_laws.specs.Shaped.{Fits, IsLawful, AreLawful}
use Rattle.beam_shape_laws.proofs.Landing.{begins_label}
use Rattle.beam_shape_laws.proofs.Actions.{Enters}
use Rattle.beam_shape_laws.proofs.Standing.{FitsRow}
use Rattle.beam_shape_laws.proofs.Small.{in_parts}

-- ---- entries

module _ (test : ℕ → Bool) where
  entries_behind : (xs ys : List Instruction) → list_all test (entries (xs ++ ys)) ≡ true → list_all test (entries ys) ≡ true
  entries_behind [] ys h = h
  entries_behind (i ∷ xs) ys h = entries_behind xs ys (in_parts test (entry_by i.opcode (xs ++ ys)) (entries (xs ++ ys)) h).1

  entry_passes : (name : List ℕ) (f : Function) (front rest : List Instruction) → IsFunction name f front → list_all test (entries (front ++ rest)) ≡ true → test f.entry ≡ true
  entry_passes name f front rest is h =
      let before : List Instruction = label is.first ∷ is.lines in
      let behind : List Instruction = func_info name f.name f.arity ∷ label f.entry ∷ is.body in
      let whole : list_all test (entries ((before ++ behind) ++ rest)) ≡ true = subst (λ front. list_all test (entries (front ++ rest)) ≡ true) is.parts h in
      let parts : list_all test (entries (before ++ (behind ++ rest))) ≡ true = subst (λ code. list_all test (entries code) ≡ true) (append_assoc before behind rest) whole in
      (and_parts (test f.entry) (list_all test (entries (label f.entry ∷ (is.body ++ rest)))) (entries_behind before (behind ++ rest) parts)).0

  entry_of_function : (name : List ℕ) (fs : List Function) (code : List Instruction) (g : Function) → AreFunctions name fs code → list_all test (entries code) ≡ true → list_any (λ f. is_entry f g) fs ≡ true → test g.entry ≡ true
  entry_of_function name [] code g are h any = absurd (true≢false (sym any))
  entry_of_function name (f ∷ fs) code g are h any =
      let whole : list_all test (entries (are.0 ++ are.1)) ≡ true = subst (λ code. list_all test (entries code) ≡ true) are.2 h in
      go (is_entry f g) refl any (entry_passes name f are.0 are.1 are.3 whole) (entry_of_function name fs are.1 g are.4 (entries_behind are.0 are.1 whole))
    where
      go : (b : Bool) → is_entry f g ≡ b → (b || list_any (λ f. is_entry f g) fs) ≡ true → test f.entry ≡ true → (list_any (λ f. is_entry f g) fs ≡ true → test g.entry ≡ true) → test g.entry ≡ true
      go true e any this later =
          let same = and_parts (same_text f.name g.name) (f.arity == g.arity && f.entry == g.entry) e in
          subst (λ n. test n ≡ true) (eqb-true f.entry g.entry (and_parts (f.arity == g.arity) (f.entry == g.entry) same.1).1) this
      go false e any this later = later any

-- ---- exports

export_passes : (test : ℕ → Bool) (fs : List Function) → ((e : Export) → is_entry_of fs e ≡ true → test e.label ≡ true) → (function : List ℕ) (arity : ℕ) (exports : List Export) (n : ℕ)
    → list_all (is_entry_of fs) exports ≡ true → export_of function arity exports ≡ Some n → test n ≡ true
export_passes test fs passes function arity [] n h e = cc
export_passes test fs passes function arity (x ∷ exports) n h e =
    let both = and_parts (is_entry_of fs x) (list_all (is_entry_of fs) exports) h in
    go (is_export function arity x) e (passes x both.0) (export_passes test fs passes function arity exports n both.1)
  where
    go : (b : Bool) → cond b (Some x.label) (export_of function arity exports) ≡ Some n → test x.label ≡ true → (export_of function arity exports ≡ Some n → test n ≡ true) → test n ≡ true
    go true e this later = subst (λ n. test n ≡ true) (same_Some x.label n e) this
    go false e this later = later e

export_begins : (l : Listing) (w : IsWellFormed l) (function : List ℕ) (arity n : ℕ) → export_of function arity l.exports ≡ Some n → begins_bare w.framed.shapes l.instructions n ≡ true
export_begins l w function arity n e =
    export_passes (begins_bare w.framed.shapes l.instructions) w.functions
    (λ x any. entry_of_function (begins_bare w.framed.shapes l.instructions) l.name w.functions l.instructions (exported x) w.are_functions w.framed.begin any)
    function arity l.exports n w.entries e

-- ---- current instances

own_listing : (i : Instance) (o : Option Listing) → listing_in (Some i) i.number o ≡ Some i.listing
own_listing i o = let own : (i.number == i.number) ≡ true = grind (arith, nat_tests) in ap (λ b. cond b (Some i.listing) o) own

not_borne : (n : ℕ) (o : Option Instance) (x : Option Listing) → bears n o ≡ 0 → listing_in o n x ≡ x
not_borne n None x e = refl
not_borne n (Some i) x e = go (i.number == n) e
  where
    go : (b : Bool) → ◌≡◌ {A = ℕ} (cond b 1 0) 0 → cond b (Some i.listing) x ≡ x
    go true e = cc
    go false e = refl

current_borne : (code : Code) (name : List ℕ) (i : Instance) → (versions_of code name).current ≡ Some i → 1 ≤ how_many i.number code
current_borne [] name i e = cc
current_borne (v ∷ rest) name i e = go (same_text v.name name) e (current_borne rest name i)
  where
    go : (b : Bool) → (cond b v (versions_of rest name)).current ≡ Some i → ((versions_of rest name).current ≡ Some i → 1 ≤ how_many i.number rest) → 1 ≤ how_many i.number (v ∷ rest)
    go true e later = omega (arith, bears_own i v.current e)
    go false e later = omega (arith, later e)

current_listing : (code : Code) (name : List ℕ) (i : Instance) → (versions_of code name).current ≡ Some i → how_many i.number code ≤ 1 → listing_of code i.number ≡ Some i.listing
current_listing [] name i e few = cc
current_listing (v ∷ rest) name i e few = go (same_text v.name name) e (λ e. current_borne rest name i e) (λ e few. current_listing rest name i e few)
  where
    go : (b : Bool) → (cond b v (versions_of rest name)).current ≡ Some i → ((versions_of rest name).current ≡ Some i → 1 ≤ how_many i.number rest)
        → ((versions_of rest name).current ≡ Some i → how_many i.number rest ≤ 1 → listing_of rest i.number ≡ Some i.listing) → listing_of (v ∷ rest) i.number ≡ Some i.listing
    go true e borne later = ap (λ o. listing_in o i.number (listing_in v.old i.number (listing_of rest i.number))) e ∙ own_listing i (listing_in v.old i.number (listing_of rest i.number))
    go false e borne later =
        let some = borne e in
        let current : bears i.number v.current ≡ 0 = omega (arith, few, some) in
        let old : bears i.number v.old ≡ 0 = omega (arith, few, some) in
        not_borne i.number v.current (listing_in v.old i.number (listing_of rest i.number)) current
        ∙ (not_borne i.number v.old (listing_of rest i.number) old ∙ later e (omega (arith, few)))

current_lawful : (code : Code) (name : List ℕ) (i : Instance) → AreLawful code → (versions_of code name).current ≡ Some i → IsWellFormed i.listing
current_lawful [] name i h e = cc
current_lawful (v ∷ rest) name i h e = go (same_text v.name name) e (current_lawful rest name i h.1)
  where
    go : (b : Bool) → (cond b v (versions_of rest name)).current ≡ Some i → ((versions_of rest name).current ≡ Some i → IsWellFormed i.listing) → IsWellFormed i.listing
    go true e later = subst IsLawful e h.0.0
    go false e later = later e

-- ---- entries of current code

label_fits : (code : Code) (i : Instance) (o : Option ℕ) (place : Place) → FitsRow code i.number None o → option_map (λ at. record { instance = i.number; at = at }) o ≡ Some place → Fits code place None
label_fits code i None place f e = absurd f
label_fits code i (Some at) place f e = subst (λ place. Fits code place None) (same_Some (record { instance = i.number; at = at }) place e) f

export_fits : (code : Code) (i : Instance) (w : IsWellFormed i.listing) (o : Option ℕ) (place : Place) → listing_of code i.number ≡ Some i.listing → ((n : ℕ) → o ≡ Some n → begins_bare w.framed.shapes i.listing.instructions n ≡ true)
    → option_map (λ at. record { instance = i.number; at = at }) (option_and_then (λ label. row_of_label label 0 i.listing.instructions) o) ≡ Some place → Fits code place None
export_fits code i w None place found begins e = cc
export_fits code i w (Some n) place found begins e = label_fits code i (row_of_label n 0 i.listing.instructions) place (begins_label code i.number i.listing found w n (begins n refl)) e

pub enters : (code : Code) → AreLawful code → ((n : ℕ) → how_many n code ≤ 1) → Enters code
unfolding entry_of
enters code lawful few name function arity place e = go (versions_of code name).current refl e
  where
    go : (o : Option Instance) → (versions_of code name).current ≡ o → option_and_then (λ i. entry_in i function arity) o ≡ Some place → Fits code place None
    go None is e = cc
    go (Some i) is e =
        let w = current_lawful code name i lawful is in
        export_fits code i w (export_of function arity i.listing.exports) place (current_listing code name i is (few i.number)) (λ n e. export_begins i.listing w function arity n e) e
