-- A record says one thing: a body spells one command, and a command is one event.
use Rattle.std.proofs.Common.{◌≡◌, ◌≢◌, ℕ, Bool, true, false, ◌==◌, eqb, if◌then◌else◌, List, [], ◌∷◌, ◌++◌, take, drop, Option, Some, refl, sym, ap, subst, ◌∙◌, arith, eqb-true, take_at, drop_at}
use Rattle.std.proofs.lemmas.Option.{same_Some}
use Rattle.byteorder.specs.Endian.{big_number}
use Rattle.beam_disasm.proofs.Files.{one_listing}
use Rattle.beam_frame.proofs.Spelling.{read_again}
use Rattle.beam_machine.specs.declared.debug.DebugEvent.{DebugEvent}
use Rattle.beam_machine.specs.declared.debug.DebugEvent.TheVariants.{Node, SetBreak, ClearBreak, Resume, StepOne, Inspect}
use Rattle.beam_machine.specs.declared.event.Event.TheVariants as event
use Rattle.beam_machine.specs.Prelude.{Command, SentEvent, command_of, event_of}
use Rattle.beam_model.specs.Prelude.{Listing}
use Rattle.beam_records.specs.JournalFile.{AreImages, IsEventOf, IsImage, IsRecord, SpellsBody, framed, short_steps, short_deliver}
use Rattle.beam_records.proofs.Records.{Same, both_same, same_bytes}
use Rattle.beam_records.proofs.Spelled.{command_kind}

-- ---- one event of a command

one_image : (file : List ℕ) (l m : Listing) → IsImage file l → IsImage file m → l ≡ m
one_image file l m a b = one_listing file l m a.is_file b.is_file

one_images : (files : List (List ℕ)) (ls ms : List Listing) → AreImages files ls → AreImages files ms → ls ≡ ms
one_images [] [] [] a b = refl
one_images [] [] (m ∷ ms) a b = absurd b
one_images [] (l ∷ ls) ms a b = absurd a
one_images (file ∷ files) [] ms a b = absurd a
one_images (file ∷ files) (l ∷ ls) [] a b = absurd b
one_images (file ∷ files) (l ∷ ls) (m ∷ ms) a b =
    let e : l ≡ m = one_image file l m a.0 b.0 in
    let f : ls ≡ ms = one_images files ls ms a.1 b.1 in
    λ i. e i ∷ f i

both_some : {A : Type 0} (o : Option A) (x y : A) → o ≡ Some x → o ≡ Some y → x ≡ y
both_some o x y e f = same_Some x y (sym e ∙ f)

plain : (c : Command) (e f : DebugEvent Listing) → event_of c ≡ Some e → event_of c ≡ Some f → e ≡ f
plain c e f h k = both_some (event_of c) e f h k

one_event : (c : Command) (e f : DebugEvent Listing) → IsEventOf c e → IsEventOf c f → e ≡ f
one_event (Node (event.Load file)) e f h k = h.2 ∙ ap (λ (l : Listing). Node (event.Load l)) (one_image file h.0 k.0 h.1 k.1) ∙ sym k.2
one_event (Node (event.LoadStrict file)) e f h k = h.2 ∙ ap (λ (l : Listing). Node (event.LoadStrict l)) (one_image file h.0 k.0 h.1 k.1) ∙ sym k.2
one_event (Node (event.AtomicLoad mode files)) e f h k = h.2 ∙ ap (λ (ls : List Listing). Node (event.AtomicLoad mode ls)) (one_images files h.0 k.0 h.1 k.1) ∙ sym k.2
one_event (Node (event.Delete name)) e f h k = plain (Node (event.Delete name)) e f h k
one_event (Node (event.SoftPurge name)) e f h k = plain (Node (event.SoftPurge name)) e f h k
one_event (Node (event.Purge name)) e f h k = plain (Node (event.Purge name)) e f h k
one_event (Node (event.Versions name)) e f h k = plain (Node (event.Versions name)) e f h k
one_event (Node (event.Spawn name function arguments)) e f h k = plain (Node (event.Spawn name function arguments)) e f h k
one_event (Node (event.Send to message)) e f h k = plain (Node (event.Send to message)) e f h k
one_event (Node (event.Steps pid rows)) e f h k = plain (Node (event.Steps pid rows)) e f h k
one_event (Node (event.Deliver pid)) e f h k = plain (Node (event.Deliver pid)) e f h k
one_event (Node (event.Clock now)) e f h k = plain (Node (event.Clock now)) e f h k
one_event (Node (event.Timeout pid)) e f h k = plain (Node (event.Timeout pid)) e f h k
one_event (SetBreak spot) e f h k = plain (SetBreak spot) e f h k
one_event (ClearBreak spot) e f h k = plain (ClearBreak spot) e f h k
one_event (Resume pid) e f h k = plain (Resume pid) e f h k
one_event (StepOne pid) e f h k = plain (StepOne pid) e f h k
one_event (Inspect pid) e f h k = plain (Inspect pid) e f h k

-- ---- one command of a body

-- the command that a body of a kind can spell alone
body_command : ℕ → List ℕ → Option Command
body_command kind body =
    if kind == 32 then Some (Node (event.Steps (big_number 2 (take 2 body)) (big_number 2 (drop 2 body))))
    else (if kind == 33 then Some (Node (event.Deliver (big_number 2 body))) else command_of kind body)

other_test : (a b : ℕ) (test : Bool) → eqb a b ≡ test → a ≢ b → eqb a b ≡ false
other_test a b true e h = absurd (h (eqb-true a b e))
other_test a b false e h = e

read_body : (k : ℕ) (b : List ℕ) (c : Command) → SpellsBody k b c → body_command k b ≡ Some c
unfolding body_command
read_body _ _ _ (framed k b c h) =
    let small = command_kind k b c h in
    rw (other_test k 32 _ refl (λ e. omega (arith, small, e)), other_test k 33 _ refl (λ e. omega (arith, small, e))) (read_again k b c h)
read_body _ _ _ (short_steps first second pid rows h k) =
    let front : take 2 (first ++ second) ≡ first = take_at first second 2 h.wide in
    let back : drop 2 (first ++ second) ≡ second = drop_at first second 2 h.wide in
    λ i. Some (Node (event.Steps ((ap (big_number 2) front ∙ h.value) i) ((ap (big_number 2) back ∙ k.value) i)))
read_body _ _ _ (short_deliver field pid h) = ap (λ (n : ℕ). Some (Node (event.Deliver n))) h.value

one_command : (k : ℕ) (b : List ℕ) (c d : Command) → SpellsBody k b c → SpellsBody k b d → c ≡ d
one_command k b c d x y = both_some (body_command k b) c d (read_body k b c x) (read_body k b d y)

-- ---- one event and seat of a record

said : (first rest : List ℕ) (s : SentEvent) (second left : List ℕ) (t : SentEvent) (a : IsRecord first s) (b : IsRecord second t) → Same first rest s second left t a b → s ≡ t
said first rest s second left t a b same =
    let x : SpellsBody b.kind b.body a.command =
    subst (λ (k : ℕ). SpellsBody k b.body a.command) same.same_kind (subst (λ (l : List ℕ). SpellsBody a.kind l a.command) same.same_body a.spells) in
    let c : a.command ≡ b.command = one_command b.kind b.body a.command b.command x b.spells in
    let e : s.event ≡ t.event = one_event b.command s.event t.event (subst (λ (d : Command). IsEventOf d s.event) c a.is_event) b.is_event in
    λ i. record { event = e i; seat = same.same_seat i }

pub record_ends : (first rest second left : List ℕ) (s t : SentEvent) → IsRecord first s → IsRecord second t → first ++ rest ≡ second ++ left → first ≡ second
record_ends first rest second left s t a b e =
    same_bytes first rest s second left t a b (both_same (first ++ rest) first rest second left s t refl e a b)

pub record_says : (first rest second left : List ℕ) (s t : SentEvent) → IsRecord first s → IsRecord second t → first ++ rest ≡ second ++ left → s ≡ t
record_says first rest second left s t a b e =
    said first rest s second left t a b (both_same (first ++ rest) first rest second left s t refl e a b)

pub record_leaves : (first rest second left : List ℕ) (s t : SentEvent) → IsRecord first s → IsRecord second t → first ++ rest ≡ second ++ left → rest ≡ left
record_leaves first rest second left s t a b e = (both_same (first ++ rest) first rest second left s t refl e a b).same_rest

pub one_sent : (bytes : List ℕ) (s t : SentEvent) → IsRecord bytes s → IsRecord bytes t → s ≡ t
one_sent bytes s t a b = record_says bytes [] bytes [] s t a b refl
