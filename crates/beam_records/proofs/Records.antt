-- A record at the front of bytes is found by its pieces: there is no other.
use Rattle.std.proofs.Common.{◌≡◌, ℕ, List, ◌++◌, Option, refl, sym, ap, subst, ◌∙◌, append_assoc}
use Rattle.beam_machine.specs.declared.debug.DebugEvent.{DebugEvent}
use Rattle.beam_machine.specs.Prelude.{Command, SentEvent}
use Rattle.beam_model.specs.Prelude.{Listing}
use Rattle.beam_records.specs.JournalFile.{IsEventOf, IsRecord, IsSeat, SpellsBody, opening, sized}
use Rattle.beam_records.specs.Pieces.{OpensWith, HasBody, SpellsEvent, Begins}
use Rattle.beam_records.proofs.Fronts.{same_opening, same_body}
use Rattle.beam_records.proofs.Spelled.{body_kind, body_width}

opens : (bytes : List ℕ) (s : SentEvent) (first rest : List ℕ) → bytes ≡ first ++ rest → (r : IsRecord first s) → OpensWith bytes s.seat r.kind (sized r.kind r.body ++ rest)
opens bytes s first rest e r = record {
  stands = e ∙ ap (λ (l : List ℕ). l ++ rest) r.stands ∙ append_assoc (opening s.seat r.kind) (sized r.kind r.body) rest;
  is_seat = r.is_seat;
  is_kind = body_kind r.kind r.body r.command r.spells;
}

has_body : (s : SentEvent) (first rest : List ℕ) (r : IsRecord first s) → HasBody (sized r.kind r.body ++ rest) r.kind r.body rest
has_body s first rest r = record {
  stands = refl;
  has_width = record { width = body_width r.kind r.body r.command r.spells; short = r.short };
}

-- ---- no record stands at the front

pub no_opening : (bytes : List ℕ) → ((seat : Option ℕ) (kind : ℕ) (rest : List ℕ) → OpensWith bytes seat kind rest → ⊥)
    → (first rest : List ℕ) (s : SentEvent) → bytes ≡ first ++ rest → IsRecord first s → ⊥
no_opening bytes none first rest s e r = none s.seat r.kind (sized r.kind r.body ++ rest) (opens bytes s first rest e r)

-- the pieces that a record has are those that were found
record Found (seat : Option ℕ) (kind : ℕ) (after first rest : List ℕ) (s : SentEvent) : Type 0 where
  is : IsRecord first s
  same_seat : seat ≡ s.seat
  same_kind : kind ≡ is.kind
  same_rest : after ≡ sized is.kind is.body ++ rest

found : (bytes : List ℕ) (seat : Option ℕ) (kind : ℕ) (after : List ℕ) → OpensWith bytes seat kind after
    → (first rest : List ℕ) (s : SentEvent) → bytes ≡ first ++ rest → IsRecord first s → Found seat kind after first rest s
found bytes seat kind after o first rest s e r =
    let same = same_opening bytes seat s.seat kind r.kind after (sized r.kind r.body ++ rest) o (opens bytes s first rest e r) in
    record { is = r; same_seat = same.0; same_kind = same.1; same_rest = same.2 }

body_found : (seat : Option ℕ) (kind : ℕ) (after first rest : List ℕ) (s : SentEvent) (f : Found seat kind after first rest s) → HasBody after kind f.is.body rest
body_found seat kind after first rest s f =
    subst (λ (l : List ℕ). HasBody l kind f.is.body rest) (sym f.same_rest)
    (subst (λ (k : ℕ). HasBody (sized f.is.kind f.is.body ++ rest) k f.is.body rest) (sym f.same_kind) (has_body s first rest f.is))

pub no_event : (bytes : List ℕ) (seat : Option ℕ) (kind : ℕ) (after : List ℕ) → OpensWith bytes seat kind after
    → ((body rest : List ℕ) (c : Command) (e : DebugEvent Listing) → HasBody after kind body rest → SpellsBody kind body c → IsEventOf c e → ⊥)
    → (first rest : List ℕ) (s : SentEvent) → bytes ≡ first ++ rest → IsRecord first s → ⊥
no_event bytes seat kind after o none first rest s e r =
    let f = found bytes seat kind after o first rest s e r in
    none f.is.body rest f.is.command s.event (body_found seat kind after first rest s f)
    (subst (λ (k : ℕ). SpellsBody k f.is.body f.is.command) (sym f.same_kind) f.is.spells) f.is.is_event

-- of a body that was found, any other body at the front spells no more
pub no_other : (bytes : List ℕ) (kind : ℕ) (body left : List ℕ) → HasBody bytes kind body left → ((c : Command) (e : DebugEvent Listing) → SpellsBody kind body c → IsEventOf c e → ⊥)
    → (b rest : List ℕ) (c : Command) (e : DebugEvent Listing) → HasBody bytes kind b rest → SpellsBody kind b c → IsEventOf c e → ⊥
no_other bytes kind body left h none b rest c e k spells is =
    let same = same_body bytes kind body b left rest h k in
    none c e (subst (λ (l : List ℕ). SpellsBody kind l c) (sym same.0) spells) is

-- ---- a record that was found

pub one_found : (bytes : List ℕ) (seat : Option ℕ) (kind : ℕ) (after body left : List ℕ) (s : SentEvent) → OpensWith bytes seat kind after → HasBody after kind body left
    → SpellsEvent kind body s.event → s.seat ≡ seat → Begins bytes left s
one_found bytes seat kind after body left s o h spelled same = (
  opening seat kind ++ sized kind body,
  o.stands ∙ ap (λ (l : List ℕ). opening seat kind ++ l) h.stands ∙ sym (append_assoc (opening seat kind) (sized kind body) left),
  record {
    kind = kind;
    body = body;
    command = spelled.0;
    stands = ap (λ (q : Option ℕ). opening q kind ++ sized kind body) (sym same);
    is_seat = subst (λ (q : Option ℕ). IsSeat q) (sym same) o.is_seat;
    short = h.has_width.short;
    spells = spelled.1;
    is_event = spelled.2;
  },
)

-- ---- one record, and one sending

-- the bodies and commands of two records at the front of the same bytes
pub record Same (first rest : List ℕ) (s : SentEvent) (second left : List ℕ) (t : SentEvent) (a : IsRecord first s) (b : IsRecord second t) : Type 0 where
  pub same_seat : s.seat ≡ t.seat
  pub same_kind : a.kind ≡ b.kind
  pub same_body : a.body ≡ b.body
  pub same_rest : rest ≡ left

pub both_same : (bytes first rest second left : List ℕ) (s t : SentEvent) → bytes ≡ first ++ rest → bytes ≡ second ++ left → (a : IsRecord first s) (b : IsRecord second t)
    → Same first rest s second left t a b
both_same bytes first rest second left s t e f a b =
    let o = same_opening bytes s.seat t.seat a.kind b.kind (sized a.kind a.body ++ rest) (sized b.kind b.body ++ left) (opens bytes s first rest e a) (opens bytes t second left f b) in
    let h : HasBody (sized b.kind b.body ++ left) a.kind a.body rest = subst (λ (l : List ℕ). HasBody l a.kind a.body rest) o.2 (has_body s first rest a) in
    let k : HasBody (sized b.kind b.body ++ left) a.kind b.body left =
    subst (λ (n : ℕ). HasBody (sized b.kind b.body ++ left) n b.body left) (sym o.1) (has_body t second left b) in
    let same = same_body (sized b.kind b.body ++ left) a.kind a.body b.body rest left h k in
    record { same_seat = o.0; same_kind = o.1; same_body = same.0; same_rest = same.1 }

pub same_bytes : (first rest : List ℕ) (s : SentEvent) (second left : List ℕ) (t : SentEvent) (a : IsRecord first s) (b : IsRecord second t) → Same first rest s second left t a b
    → first ≡ second
same_bytes first rest s second left t a b same =
    a.stands ∙ (λ i. opening (same.same_seat i) (same.same_kind i) ++ sized (same.same_kind i) (same.same_body i)) ∙ sym b.stands
