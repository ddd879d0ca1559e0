-- The records that are written: of numbers alone, and of bodies as in a frame.
use Rattle.std.proofs.Common.{◌≡◌, ℕ, ◌^◌, ◌<◌, List, ◌++◌, length, Option, refl, ap, ◌∙◌, arith}
use Rattle.byteorder.specs.Endian.{big_bytes}
use Rattle.beam_machine.specs.declared.debug.DebugEvent.TheVariants.{Node}
use Rattle.beam_machine.specs.declared.event.Event.TheVariants as event
use Rattle.beam_machine.specs.Prelude.{Command, SentEvent, SpellsCommand}
use Rattle.beam_machine.specs.Frames as frames
use Rattle.beam_records.specs.JournalFile.{IsEventOf, IsRecord, IsSeat, SpellsBody, framed, short_steps, short_deliver, opening, sized, width_of}
use Rattle.beam_records.specs.Pieces.{Adds}
use Rattle.beam_records.proofs.Numbers.{number_written}

-- a body of its kind after an opening is a record
pub is_written : (kind : ℕ) (body : List ℕ) (c : Command) (s : SentEvent) → IsSeat s.seat → length body < 2 ^ 32 → SpellsBody kind body c → IsEventOf c s.event
    → IsRecord (opening s.seat kind ++ sized kind body) s
is_written kind body c s seat short spells is_event = record {
  kind = kind;
  body = body;
  command = c;
  stands = refl;
  is_seat = seat;
  short = short;
  spells = spells;
  is_event = is_event;
}

pub adds : (old new : List ℕ) (kind : ℕ) (body : List ℕ) (c : Command) (s : SentEvent) → IsSeat s.seat → length body < 2 ^ 32 → SpellsBody kind body c → IsEventOf c s.event
    → new ≡ old ++ (opening s.seat kind ++ sized kind body) → Adds old new s
adds old new kind body c s seat short spells is_event e = (opening s.seat kind ++ sized kind body, e, is_written kind body c s seat short spells is_event)

-- the same body, and the same record where its kind has a width
pub at_body : (old new : List ℕ) (seat : Option ℕ) (kind : ℕ) (body b : List ℕ) → body ≡ b → new ≡ old ++ (opening seat kind ++ sized kind body)
    → new ≡ old ++ (opening seat kind ++ sized kind b)
at_body old new seat kind body b same e = e ∙ ap (λ (l : List ℕ). old ++ (opening seat kind ++ sized kind l)) same

pub short_steps_at : (old new : List ℕ) (seat : Option ℕ) (b : List ℕ) → new ≡ old ++ (opening seat 32 ++ sized 32 b) → new ≡ old ++ (opening seat 32 ++ b)
unfolding width_of
short_steps_at old new seat b e = e

pub short_deliver_at : (old new : List ℕ) (seat : Option ℕ) (b : List ℕ) → new ≡ old ++ (opening seat 33 ++ sized 33 b) → new ≡ old ++ (opening seat 33 ++ b)
unfolding width_of
short_deliver_at old new seat b e = e

steps_short : (pid rows : ℕ) → pid < 2 ^ 16 → rows < 2 ^ 16 → SpellsBody 32 (big_bytes 2 pid ++ big_bytes 2 rows) (Node (event.Steps pid rows))
steps_short pid rows p r = short_steps (big_bytes 2 pid) (big_bytes 2 rows) pid rows (number_written 2 pid (omega arith)) (number_written 2 rows (omega arith))

pub adds_short_steps : (old new : List ℕ) (pid rows : ℕ) (seat : Option ℕ) → IsSeat seat → pid < 2 ^ 16 → rows < 2 ^ 16
    → new ≡ old ++ (opening seat 32 ++ sized 32 (big_bytes 2 pid ++ big_bytes 2 rows)) → Adds old new (record { event = Node (event.Steps pid rows); seat = seat })
adds_short_steps old new pid rows seat is p r e =
    adds old new 32 (big_bytes 2 pid ++ big_bytes 2 rows) (Node (event.Steps pid rows)) (record { event = Node (event.Steps pid rows); seat = seat }) is (omega arith) (steps_short pid rows p r) refl e

pub adds_steps : (old new : List ℕ) (pid rows : ℕ) (seat : Option ℕ) → IsSeat seat → pid < 2 ^ 32 → rows < 2 ^ 32
    → new ≡ old ++ (opening seat 8 ++ sized 8 (big_bytes 4 pid ++ big_bytes 4 rows)) → Adds old new (record { event = Node (event.Steps pid rows); seat = seat })
adds_steps old new pid rows seat is p r e =
    let spells : SpellsCommand 8 (big_bytes 4 pid ++ big_bytes 4 rows) (Node (event.Steps pid rows)) =
    frames.steps (big_bytes 4 pid) (big_bytes 4 rows) pid rows (number_written 4 pid (omega arith)) (number_written 4 rows (omega arith)) in
    adds old new 8 (big_bytes 4 pid ++ big_bytes 4 rows) (Node (event.Steps pid rows)) (record { event = Node (event.Steps pid rows); seat = seat }) is (omega arith)
    (framed 8 _ (Node (event.Steps pid rows)) spells) refl e

pub adds_short_deliver : (old new : List ℕ) (pid : ℕ) (seat : Option ℕ) → IsSeat seat → pid < 2 ^ 16
    → new ≡ old ++ (opening seat 33 ++ sized 33 (big_bytes 2 pid)) → Adds old new (record { event = Node (event.Deliver pid); seat = seat })
adds_short_deliver old new pid seat is p e =
    adds old new 33 (big_bytes 2 pid) (Node (event.Deliver pid)) (record { event = Node (event.Deliver pid); seat = seat }) is (omega arith)
    (short_deliver (big_bytes 2 pid) pid (number_written 2 pid (omega arith))) refl e

pub adds_deliver : (old new : List ℕ) (pid : ℕ) (seat : Option ℕ) → IsSeat seat → pid < 2 ^ 32
    → new ≡ old ++ (opening seat 9 ++ sized 9 (big_bytes 4 pid)) → Adds old new (record { event = Node (event.Deliver pid); seat = seat })
adds_deliver old new pid seat is p e =
    adds old new 9 (big_bytes 4 pid) (Node (event.Deliver pid)) (record { event = Node (event.Deliver pid); seat = seat }) is (omega arith)
    (framed 9 _ (Node (event.Deliver pid)) (frames.deliver (big_bytes 4 pid) pid (number_written 4 pid (omega arith)))) refl e

pub adds_clock : (old new : List ℕ) (now : ℕ) (seat : Option ℕ) → IsSeat seat → now < 2 ^ 64
    → new ≡ old ++ (opening seat 10 ++ sized 10 (big_bytes 8 now)) → Adds old new (record { event = Node (event.Clock now); seat = seat })
adds_clock old new now seat is p e =
    adds old new 10 (big_bytes 8 now) (Node (event.Clock now)) (record { event = Node (event.Clock now); seat = seat }) is (omega arith)
    (framed 10 _ (Node (event.Clock now)) (frames.clock (big_bytes 8 now) now (number_written 8 now (omega arith)))) refl e

pub adds_timeout : (old new : List ℕ) (pid : ℕ) (seat : Option ℕ) → IsSeat seat → pid < 2 ^ 32
    → new ≡ old ++ (opening seat 11 ++ sized 11 (big_bytes 4 pid)) → Adds old new (record { event = Node (event.Timeout pid); seat = seat })
adds_timeout old new pid seat is p e =
    adds old new 11 (big_bytes 4 pid) (Node (event.Timeout pid)) (record { event = Node (event.Timeout pid); seat = seat }) is (omega arith)
    (framed 11 _ (Node (event.Timeout pid)) (frames.timeout (big_bytes 4 pid) pid (number_written 4 pid (omega arith)))) refl e
