-- What keeps the indexes of the processes right.
use Rattle.std.proofs.Common.{◌≡◌, ℕ, zero, suc, Bool, true, false, cond, List, [], ◌∷◌, ◌++◌, length, map, slice_get, refl, sym, ap, subst, ◌∙◌, Option, Some, None, slice_set, unwrap_or}
use Rattle.std.proofs.lemmas.List.{map-set, length-map, map-append}
use Rattle.std.proofs.lemmas.Option.{same_Some}
use Rattle.std.specs.Cmp.Lexicographic.{nat_list_eq_equiv}
use Rattle.std.proofs.lemmas.Slice.Eq.{bytes_eq-Decides}
use Rattle.beam_agenda.specs.declared.entry.AgendaEntry.{AgendaEntry}
use Rattle.beam_machine.specs.Prelude.{Process, registered}
use Rattle.beam_model.specs.Prelude.{same_text}
use Rattle.beam_laws.proofs.Orderly.{got, unregistered, nameless}
use Rattle.beam_state.specs.Prelude.{entry_of, IsIndexed, KeepsName}

abbrev pub Find : Type 0
Find = List ℕ → Option ℕ

pub no_indexes : (find : Find) → IsIndexed find [] []
unfolding IsIndexed
no_indexes find = (refl, λ i p name e f. cc)

pub entries_are : (find : Find) (agenda : List AgendaEntry) (ps : List Process) → IsIndexed find agenda ps → agenda ≡ map entry_of ps
unfolding IsIndexed
entries_are find agenda ps h = h.0

pub as_many : (find : Find) (agenda : List AgendaEntry) (ps : List Process) → IsIndexed find agenda ps → length agenda ≡ length ps
as_many find agenda ps h = ap (λ (es : List AgendaEntry). length es) (entries_are find agenda ps h) ∙ length-map ps entry_of

-- ---- one process is changed

pub changed_indexed : (find : Find) (agenda : List AgendaEntry) (ps : List Process) (i : ℕ) (p q : Process) → IsIndexed find agenda ps → slice_get ps i ≡ Some p → KeepsName p q
    → IsIndexed find (slice_set agenda i (entry_of q)) (slice_set ps i q)
unfolding IsIndexed
changed_indexed find agenda ps i p q h there keeps = (
  ap (λ es. slice_set es i (entry_of q)) h.0 ∙ sym (map-set entry_of ps i q),
  λ j r name e named. got {C = find name ≡ Some j} ps i j q r e
      (λ same is. h.1 j p name (subst (λ k. slice_get ps k ≡ Some p) same there) (keeps name (ap (λ q. q.name) is ∙ named)))
      (λ e. h.1 j r name e named),
)

-- ---- a process is added

pushed : {C : Type 0} (ps : List Process) (j : ℕ) (x r : Process) → slice_get (ps ++ x ∷ []) j ≡ Some r → (x ≡ r → C) → (slice_get ps j ≡ Some r → C) → C
pushed [] zero x r e f g = f (same_Some x r e)
pushed [] (suc j) x r e f g = g e
pushed (p ∷ ps) zero x r e f g = g e
pushed (p ∷ ps) (suc j) x r e f g = pushed ps j x r e f g

pub pushed_indexed : (find : Find) (agenda : List AgendaEntry) (ps : List Process) (x : Process) → IsIndexed find agenda ps → x.name ≡ None
    → IsIndexed find (agenda ++ entry_of x ∷ []) (ps ++ x ∷ [])
unfolding IsIndexed
pushed_indexed find agenda ps x h new = (
  ap (λ es. es ++ entry_of x ∷ []) h.0 ∙ sym (map-append entry_of ps (x ∷ [])),
  λ j r name e named. pushed {C = find name ≡ Some j} ps j x r e
      (λ is. nameless name (sym new ∙ (ap (λ x. x.name) is ∙ named)))
      (λ e. h.1 j r name e named),
)

-- ---- a process is named

-- the look-up by name after the process at an index was given a name
abbrev pub Adds : Find → List ℕ → ℕ → Find → Type 0
Adds find name i new = (m : List ℕ) → new m ≡ cond (same_text name m) (Some i) (find m)

pub named_indexed : (find new : Find) (agenda : List AgendaEntry) (ps : List Process) (i : ℕ) (p : Process) (name : List ℕ)
    → IsIndexed find agenda ps → slice_get ps i ≡ Some p → registered ps name ≡ None → Adds find name i new
    → IsIndexed new (slice_set agenda i (entry_of (record p { name = Some name }))) (slice_set ps i (record p { name = Some name }))
unfolding IsIndexed
named_indexed find new agenda ps i p name h there free adds =
    let q : Process = record p { name = Some name } in (
      ap (λ es. slice_set es i (entry_of q)) h.0 ∙ sym (map-set entry_of ps i q),
      λ j r m e named. got {C = new m ≡ Some j} ps i j q r e
          (λ same is. adds m ∙ (ap (λ b. cond b (Some i) (find m)) (itself m (ap (λ r. r.name) is ∙ named)) ∙ ap Some same))
          (λ e. adds m ∙ other j r m e named (same_text name m) refl),
    )
  where
    itself : (m : List ℕ) → Some name ≡ Some m → same_text name m ≡ true
    itself m e = ap (same_text name) (ap (λ o. unwrap_or o name) (sym e)) ∙ nat_list_eq_equiv.refl name

    other : (j : ℕ) (r : Process) (m : List ℕ) → slice_get ps j ≡ Some r → r.name ≡ Some m → (b : Bool) → same_text name m ≡ b → cond b (Some i) (find m) ≡ Some j
    other j r m e named true same = absurd (unregistered ps name j r free e (named ∙ ap Some (sym ((bytes_eq-Decides name m).0 same))))
    other j r m e named false same = h.1 j r m e named
