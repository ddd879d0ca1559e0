-- An event that loads nothing is of one command; where no body spells that, no bytes are its record.
use Rattle.std.proofs.Common.{◌≡◌, ℕ, zero, suc, ◌^◌, ◌<◌, true, false, List, [], ◌∷◌, ◌++◌, length, Option, Some, None, refl, sym, ap, subst, ◌∙◌, arith}
use Rattle.std.proofs.lemmas.Option.{same_Some}
use Rattle.byteorder.specs.Endian.{big_bytes}
use Rattle.beam_command_writer.specs.Bodies.{AreBytes, IsUnspelled}
use Rattle.beam_machine.specs.declared.debug.DebugEvent.{DebugEvent}
use Rattle.beam_machine.specs.declared.debug.DebugEvent.TheVariants.{Node, SetBreak, ClearBreak, Resume, StepOne, Inspect}
use Rattle.beam_machine.specs.declared.event.Event.TheVariants as event
use Rattle.beam_machine.specs.Prelude.{Command, IsNumber, SentEvent}
use Rattle.beam_machine.specs.Frames as frames
use Rattle.beam_model.specs.Prelude.{Listing}
use Rattle.beam_records.specs.JournalFile.{IsEventOf, IsRecord, SpellsBody, framed, short_steps, short_deliver, opening, sized, sized_by, width_of}
use Rattle.beam_records.specs.Pieces.{loads_code}
use Rattle.beam_records.proofs.Numbers.{number_written}

-- ---- the command of an event that loads nothing

command_back : DebugEvent Listing → Option Command
command_back (Node (event.Load l)) = None
command_back (Node (event.LoadStrict l)) = None
command_back (Node (event.AtomicLoad mode ls)) = None
command_back (Node (event.Delete name)) = Some (Node (event.Delete name))
command_back (Node (event.SoftPurge name)) = Some (Node (event.SoftPurge name))
command_back (Node (event.Purge name)) = Some (Node (event.Purge name))
command_back (Node (event.Versions name)) = Some (Node (event.Versions name))
command_back (Node (event.Spawn name function arguments)) = Some (Node (event.Spawn name function arguments))
command_back (Node (event.Send to message)) = Some (Node (event.Send to message))
command_back (Node (event.Steps pid rows)) = Some (Node (event.Steps pid rows))
command_back (Node (event.Deliver pid)) = Some (Node (event.Deliver pid))
command_back (Node (event.Clock now)) = Some (Node (event.Clock now))
command_back (Node (event.Timeout pid)) = Some (Node (event.Timeout pid))
command_back (SetBreak spot) = Some (SetBreak spot)
command_back (ClearBreak spot) = Some (ClearBreak spot)
command_back (Resume pid) = Some (Resume pid)
command_back (StepOne pid) = Some (StepOne pid)
command_back (Inspect pid) = Some (Inspect pid)

loaded : (e : DebugEvent Listing) (x : DebugEvent Listing) → loads_code e ≡ false → e ≡ x → loads_code x ≡ true → ⊥
loaded e x none same is = let no : false ≡ true = sym none ∙ ap loads_code same ∙ is in absurd cc

at_event : (c : Command) (x e : DebugEvent Listing) → Some x ≡ Some e → command_back x ≡ Some c → command_back e ≡ Some c
at_event c x e same is = subst (λ (y : DebugEvent Listing). command_back y ≡ Some c) (same_Some x e same) is

back : (c : Command) (e : DebugEvent Listing) → loads_code e ≡ false → IsEventOf c e → command_back e ≡ Some c
unfolding command_back
back (Node (event.Load file)) e none h = absurd (loaded e (Node (event.Load h.0)) none h.2 refl)
back (Node (event.LoadStrict file)) e none h = absurd (loaded e (Node (event.LoadStrict h.0)) none h.2 refl)
back (Node (event.AtomicLoad mode files)) e none h = absurd (loaded e (Node (event.AtomicLoad mode h.0)) none h.2 refl)
back (Node (event.Delete name)) e none h = at_event (Node (event.Delete name)) (Node (event.Delete name)) e h refl
back (Node (event.SoftPurge name)) e none h = at_event (Node (event.SoftPurge name)) (Node (event.SoftPurge name)) e h refl
back (Node (event.Purge name)) e none h = at_event (Node (event.Purge name)) (Node (event.Purge name)) e h refl
back (Node (event.Versions name)) e none h = at_event (Node (event.Versions name)) (Node (event.Versions name)) e h refl
back (Node (event.Spawn name function arguments)) e none h = at_event (Node (event.Spawn name function arguments)) (Node (event.Spawn name function arguments)) e h refl
back (Node (event.Send to message)) e none h = at_event (Node (event.Send to message)) (Node (event.Send to message)) e h refl
back (Node (event.Steps pid rows)) e none h = at_event (Node (event.Steps pid rows)) (Node (event.Steps pid rows)) e h refl
back (Node (event.Deliver pid)) e none h = at_event (Node (event.Deliver pid)) (Node (event.Deliver pid)) e h refl
back (Node (event.Clock now)) e none h = at_event (Node (event.Clock now)) (Node (event.Clock now)) e h refl
back (Node (event.Timeout pid)) e none h = at_event (Node (event.Timeout pid)) (Node (event.Timeout pid)) e h refl
back (SetBreak spot) e none h = at_event (SetBreak spot) (SetBreak spot) e h refl
back (ClearBreak spot) e none h = at_event (ClearBreak spot) (ClearBreak spot) e h refl
back (Resume pid) e none h = at_event (Resume pid) (Resume pid) e h refl
back (StepOne pid) e none h = at_event (StepOne pid) (StepOne pid) e h refl
back (Inspect pid) e none h = at_event (Inspect pid) (Inspect pid) e h refl

one_command : (c d : Command) (e : DebugEvent Listing) → loads_code e ≡ false → IsEventOf c e → IsEventOf d e → c ≡ d
one_command c d e none h k = same_Some c d (sym (back c e none h) ∙ back d e none k)

-- ---- bytes

later_bytes : (first rest : List ℕ) → AreBytes (first ++ rest) → AreBytes rest
later_bytes [] rest fit = fit
later_bytes (b ∷ first) rest fit = later_bytes first rest (λ i. fit (suc i))

sized_bytes : (width : Option ℕ) (body : List ℕ) → AreBytes (sized_by width body) → AreBytes body
sized_bytes (Some n) body fit = fit
sized_bytes None body fit = later_bytes (big_bytes 4 (length body)) body fit

body_bytes : (bytes : List ℕ) (s : SentEvent) → AreBytes bytes → (r : IsRecord bytes s) → AreBytes r.body
body_bytes bytes s fit r =
    sized_bytes (width_of r.kind) r.body (later_bytes (opening s.seat r.kind) (sized r.kind r.body) (subst (λ (l : List ℕ). AreBytes l) r.stands fit))

four_fit : (n : ℕ) → AreBytes (big_bytes 4 n)
four_fit n zero = omega arith
four_fit n (suc zero) = omega arith
four_fit n (suc (suc zero)) = omega arith
four_fit n (suc (suc (suc zero))) = omega arith
four_fit n (suc (suc (suc (suc i)))) = omega arith

two_fields : (a b : ℕ) → AreBytes (big_bytes 4 a ++ big_bytes 4 b)
two_fields a b zero = omega arith
two_fields a b (suc zero) = omega arith
two_fields a b (suc (suc zero)) = omega arith
two_fields a b (suc (suc (suc zero))) = omega arith
two_fields a b (suc (suc (suc (suc i)))) = four_fit b i

-- ---- short bodies: their commands have bodies as in a frame too

number_fits : (field : List ℕ) (n : ℕ) → AreBytes field → IsNumber 2 field n → n < 2 ^ 32
number_fits field n fit h = omega (arith, h.value, fit 0, fit 1)

first_bytes : (first rest : List ℕ) → AreBytes (first ++ rest) → AreBytes first
first_bytes [] rest fit i = omega arith
first_bytes (b ∷ first) rest fit zero = fit 0
first_bytes (b ∷ first) rest fit (suc i) = first_bytes first rest (λ j. fit (suc j)) i

no_body : (k : ℕ) (b : List ℕ) (c : Command) → AreBytes b → SpellsBody k b c → IsUnspelled c → ⊥
no_body _ _ _ fit (framed k b c h) none = none k b fit h
no_body _ _ _ fit (short_steps first second pid rows h k) none =
    let p = number_fits first pid (first_bytes first second fit) h in
    let r = number_fits second rows (later_bytes first second fit) k in
    none 8 (big_bytes 4 pid ++ big_bytes 4 rows) (two_fields pid rows)
    (frames.steps (big_bytes 4 pid) (big_bytes 4 rows) pid rows (number_written 4 pid (omega (arith, p))) (number_written 4 rows (omega (arith, r))))
no_body _ _ _ fit (short_deliver field pid h) none =
    let p = number_fits field pid fit h in
    none 9 (big_bytes 4 pid) (four_fit pid) (frames.deliver (big_bytes 4 pid) pid (number_written 4 pid (omega (arith, p))))

pub no_record : (bytes : List ℕ) (s : SentEvent) (c : Command) → AreBytes bytes → loads_code s.event ≡ false → IsEventOf c s.event → IsUnspelled c → IsRecord bytes s → ⊥
no_record bytes s c fit none is unspelled r =
    let same : r.command ≡ c = one_command r.command c s.event none r.is_event is in
    no_body r.kind r.body c (body_bytes bytes s fit r) (subst (λ (d : Command). SpellsBody r.kind r.body d) same r.spells) unspelled
