-- Processes that are checked out stay as they were at their checkout, whatever others do.
use Rattle.std.proofs.Common.{◌≡◌, ℕ, ◌≤◌, false, List, [], ◌∷◌, ◌++◌, map, ap, ◌∙◌, arith}
use Rattle.std.proofs.lemmas.Bool.{or_parts}
use Rattle.beam_model.specs.Prelude.{Listing}
use Rattle.beam_machine.specs.declared.debug.DebugEvent.{DebugEvent}
use Rattle.beam_machine.specs.Prelude.{Debugged, DebugAnswer, DebugAnswers}
use Rattle.beam_laws.specs.Prelude.{Origin, is_busy}
use Rattle.beam_laws.proofs.PreservedByAnswers.{answered_out, answered_kin}
use Rattle.beam_receipts.proofs.Moves.{slice_get_front}
use Rattle.beam_shared.specs.declared.checked_out.CheckoutEntry.{CheckoutEntry}
use Rattle.beam_shared.specs.Prelude.{must_wait, checked_out_of, context_in, IsHanded, AreHanded}

-- ---- an event of others

still_handed : (d x : Debugged) (changes later : ℕ) (handed : List Origin) (entry : CheckoutEntry) (e : DebugEvent Listing) (a : DebugAnswer)
    → DebugAnswers d e a x → changes ≤ later → (later ≡ changes → context_in x ≡ context_in d) → is_busy entry.pid e ≡ false
    → IsHanded d changes handed entry → IsHanded x later handed entry
still_handed d x changes later handed entry e a answers more same free i = record {
  origin = i.origin;
  handed_out = i.handed_out;
  own = i.own;
  is_out = answered_out d x i.origin e a answers i.is_out (ap (λ pid. is_busy pid e) i.own ∙ free);
  kin = answered_kin i.origin.code d x e a answers i.kin;
  few = omega (arith, i.few, more);
  context = λ now.
      let few : entry.changes ≤ changes = i.few in
      let none : later ≡ changes = omega (arith, now, few, more) in
      let then : entry.changes ≡ changes = omega (arith, now, few, more) in
      same none ∙ i.context then;
}

pub still_all : (d x : Debugged) (changes later : ℕ) (handed : List Origin) (entries : List CheckoutEntry) (e : DebugEvent Listing) (a : DebugAnswer)
    → DebugAnswers d e a x → changes ≤ later → (later ≡ changes → context_in x ≡ context_in d) → must_wait (map checked_out_of entries) e ≡ false
    → AreHanded d changes handed entries → AreHanded x later handed entries
still_all d x changes later handed [] e a answers more same free h = tt
still_all d x changes later handed (entry ∷ rest) e a answers more same free h =
    let both = or_parts (is_busy entry.pid e) (must_wait (map checked_out_of rest) e) free in (
      still_handed d x changes later handed entry e a answers more same both.0 h.0,
      still_all d x changes later handed rest e a answers more same both.1 h.1,
    )

-- ---- one more process is checked out

known_still : (d : Debugged) (changes : ℕ) (handed : List Origin) (o : Origin) (entry : CheckoutEntry) → IsHanded d changes handed entry → IsHanded d changes (handed ++ o ∷ []) entry
known_still d changes handed o entry i = record {
  origin = i.origin;
  handed_out = slice_get_front handed (o ∷ []) entry.serial i.origin i.handed_out;
  own = i.own;
  is_out = i.is_out;
  kin = i.kin;
  few = i.few;
  context = i.context;
}

pub known_all : (d : Debugged) (changes : ℕ) (handed : List Origin) (o : Origin) (entries : List CheckoutEntry) → AreHanded d changes handed entries
    → AreHanded d changes (handed ++ o ∷ []) entries
known_all d changes handed o [] h = tt
known_all d changes handed o (entry ∷ rest) h = (known_still d changes handed o entry h.0, known_all d changes handed o rest h.1)

pub and_one : (d : Debugged) (changes : ℕ) (handed : List Origin) (entries : List CheckoutEntry) (entry : CheckoutEntry) → AreHanded d changes handed entries
    → IsHanded d changes handed entry → AreHanded d changes handed (entries ++ entry ∷ [])
and_one d changes handed [] entry h i = (i, tt)
and_one d changes handed (first ∷ rest) entry h i = (h.0, and_one d changes handed rest entry h.1 i)
