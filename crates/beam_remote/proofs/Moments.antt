-- What was read and written when each read began.
use Rattle.std.proofs.Common.{◌≡◌, ◌≤◌, ◌∙◌, ℕ, List, [], ◌∷◌, ◌++◌, Option, Some, refl, ap, ap₂, arith, subst, length, take, map}
use Rattle.std.proofs.Math.Seq.{take-length}
use Rattle.std.proofs.lemmas.List.{map-append, take-append-le}
use Rattle.std.proofs.lemmas.List.Elements.{All-nil, All-append, All-cons, All-weaker}
use Rattle.beam_machine.specs.Prelude.{frame_in, no_frame}
use Rattle.beam_remote.specs.declared.memory.Counts.{Counts}
use Rattle.beam_remote.specs.Prelude.{IsNeeded, AreTaken, Tape, moment_of, moments_of, with_read, EachRead, Moment, appended, one_read}
use Rattle.beam_remote.proofs.Bytes.{joined, more_none}

module _ (P : Moment → Type 0) where
  pub none_since : (old : Option (List Moment)) → EachRead P old old
  none_since old = ([], more_none old, All-nil P)

  pub same_since : (old mid new : Option (List Moment)) → EachRead P old mid → new ≡ mid → EachRead P old new
  same_since old mid new (moments, is, all) same = (moments, same ∙ is, all)

  pub one_since : (old mid new : Option (List Moment)) (read written : Option (List ℕ)) → EachRead P old mid → new ≡ one_read mid read written
      → P (record { read = read; written = written }) → EachRead P old new
  one_since old mid new read written (moments, is, all) one holds =
      let m : Moment = record { read = read; written = written } in
      (moments ++ m ∷ [], joined old mid new moments (m ∷ []) is one, All-append P moments (m ∷ []) all (All-cons P m [] holds (All-nil P)))

  pub more_since : (Q : Moment → Type 0) (old mid new : Option (List Moment)) → EachRead P old mid → EachRead Q mid new → ((m : Moment) → Q m → P m)
      → EachRead P old new
  more_since Q old mid new (first, is_first, all_first) (second, is_second, all_second) within =
      (first ++ second, joined old mid new first second is_first is_second, All-append P first second all_first (All-weaker Q P within second all_second))

-- one more read began, at a moment at which the bytes had no whole frame
pub read_needed : (bytes pending read : List ℕ) (input output input' output' : Option (List ℕ)) (old mid new : Option (List Moment))
    → EachRead (IsNeeded bytes input output) old mid → new ≡ one_read mid input' output'
    → input' ≡ appended input read → pending ≡ bytes ++ read → frame_in pending ≡ no_frame → output' ≡ output → EachRead (IsNeeded bytes input output) old new
read_needed bytes pending read input output input' output' old mid new was one is_read is_pending none_left is_written =
    one_since (IsNeeded bytes input output) old mid new input' output' was one (record {
      read = read;
      is_read = is_read;
      none_left = subst (λ (b : List ℕ). frame_in b ≡ no_frame) is_pending none_left;
      is_written = is_written;
    })

-- ---- a device over memory

pub read_more : (t : Tape) → moments_of (with_read t) ≡ moments_of t ++ record { read = Some (take t.at t.given); written = Some t.taken } ∷ []
read_more t =
    map-append (moment_of t) t.reads (record { given = t.at; taken = length t.taken } ∷ [])
    ∙ ap (λ (w : List ℕ). moments_of t ++ record { read = Some (take t.at t.given); written = Some w } ∷ []) (take-length t.taken)

pub one_taken : (n : ℕ) (cs : List Counts) (c : Counts) → AreTaken n cs → c.taken ≤ n → AreTaken n (cs ++ c ∷ [])
one_taken n [] c all within = (within, tt)
one_taken n (d ∷ cs) c (first, others) within = (first, one_taken n cs c others within)

pub more_taken : (n m : ℕ) (cs : List Counts) → AreTaken n cs → n ≤ m → AreTaken m cs
more_taken n m [] all within = tt
more_taken n m (c ∷ cs) (first, others) within = (omega (arith, first, within), more_taken n m cs others within)

same_moments : (t : Tape) (appended : List ℕ) (cs : List Counts) → AreTaken (length t.taken) cs
    → map (moment_of (record t { taken = t.taken ++ appended })) cs ≡ map (moment_of t) cs
same_moments t appended [] all = refl
same_moments t appended (c ∷ cs) (first, others) =
    ap₂ (λ (w : List ℕ) (ms : List Moment). let m : Moment = record { read = Some (take c.given t.given); written = Some w } in m ∷ ms)
    (take-append-le c.taken t.taken appended first) (same_moments t appended cs others)

-- bytes that the device takes later don't change the moments of earlier reads
pub taken_then : (t : Tape) (appended : List ℕ) → AreTaken (length t.taken) t.reads → moments_of (record t { taken = t.taken ++ appended }) ≡ moments_of t
taken_then t appended all = same_moments t appended t.reads all
