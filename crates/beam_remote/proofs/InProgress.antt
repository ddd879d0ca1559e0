-- What a session has done between two commands, how it goes on, and how it ends.
use Rattle.std.proofs.Common.{◌≡◌, ◌<◌, ◌+◌, ◌∙◌, inl, inr, ℕ, suc, List, [], ◌∷◌, ◌++◌, Option, refl, ap, sym, subst, length, take, append_assoc, append-nil, arith, length-append}
use Rattle.std.proofs.Math.Path.{subst₂}
use Rattle.std.proofs.Math.Seq.{take-append_seam}
use Rattle.beam_model.specs.Prelude.{Listing}
use Rattle.beam_machine.specs.declared.command.FrameFault.{FrameFault}
use Rattle.beam_machine.specs.declared.command.FrameFault.TheVariants.{TooLong}
use Rattle.beam_machine.specs.declared.command.Response.{Response}
use Rattle.beam_machine.specs.declared.debug.DebugEvent.{DebugEvent}
use Rattle.beam_machine.specs.Prelude.{Command, frame_in, no_frame, one_frame, bad_frame, Stream, empty_stream, stream_end, at_fault, stream_of, reply_body, longest_frame}
use Rattle.beam_frame.proofs.Streams.{stream_one, stream_fault, stream_none}
use Rattle.beam_remote.specs.declared.error.SessionFailure.{SessionFailure}
use Rattle.beam_remote.specs.declared.error.SessionFailure.TheVariants.{ReadFailed, WriteFailed, CutFrame, BadFrame, NoMemory}
use Rattle.beam_remote.specs.Prelude.{IsNeeded, StopsReading, StopsTelling, TellsFault, AllAnswered, Answered, AreFrames, Serves, IsServed, IsStopped, StopsFor, EndsAt, reply_frame, reply_frames, EachRead, Moment, appended}
use Rattle.beam_remote.proofs.Bytes.{joined, more_none}
use Rattle.beam_remote.proofs.Frames.{frame_found, more_after}
use Rattle.beam_remote.proofs.Moments.{more_since, none_since, same_since}

-- ---- the commands that were taken

-- bytes are the frames of these commands, one after another, and then the rest
abbrev pub Reads : List ℕ → List Command → List ℕ → Type 0
Reads bytes [] rest = rest ≡ bytes
Reads bytes (c ∷ cs) rest = (next : List ℕ) × (frame_in bytes ≡ one_frame c next) × Reads next cs rest

reads_more : (bytes : List ℕ) (cs : List Command) (rest appended : List ℕ) → Reads bytes cs rest → Reads (bytes ++ appended) cs (rest ++ appended)
reads_more bytes [] rest appended is = ap (λ (b : List ℕ). b ++ appended) is
reads_more bytes (c ∷ cs) rest appended (next, first, others) = (next ++ appended, more_after bytes appended c next first, reads_more next cs rest appended others)

reads_one : (bytes : List ℕ) (cs : List Command) (rest : List ℕ) (c : Command) (after : List ℕ) → Reads bytes cs rest → frame_in rest ≡ one_frame c after → Reads bytes (cs ++ c ∷ []) after
reads_one bytes [] rest c after is first = (after, subst (λ (b : List ℕ). frame_in b ≡ one_frame c after) is first, refl)
reads_one bytes (d ∷ cs) rest c after (next, here, others) first = (next, here, reads_one next cs rest c after others first)

-- the commands of the bytes are those that were taken, and then those of the rest
commands_are : (bytes : List ℕ) (cs : List Command) (rest : List ℕ) → Reads bytes cs rest → (stream_of bytes).commands ≡ cs ++ (stream_of rest).commands
commands_are bytes [] rest is = ap (λ (b : List ℕ). (stream_of b).commands) (sym is)
commands_are bytes (c ∷ cs) rest (next, first, others) =
    ap (λ (s : Stream). s.commands) (stream_one bytes c next first) ∙ ap (λ (l : List Command). c ∷ l) (commands_are next cs rest others)

end_is : (bytes : List ℕ) (cs : List Command) (rest : List ℕ) → Reads bytes cs rest → (stream_of bytes).end ≡ (stream_of rest).end
end_is bytes [] rest is = ap (λ (b : List ℕ). (stream_of b).end) (sym is)
end_is bytes (c ∷ cs) rest (next, first, others) = ap (λ (s : Stream). s.end) (stream_one bytes c next first) ∙ end_is next cs rest others

frames_are : (bytes : List ℕ) (cs : List Command) (rest : List ℕ) → Reads bytes cs rest → AreFrames bytes cs rest
frames_are bytes [] rest is = sym is
frames_are bytes (c ∷ cs) rest (next, first, others) =
    let found = frame_found bytes c next first in
    (found.0, next, found.1, found.2, frames_are next cs rest others)

-- where the rest has no whole frame, all commands were taken
all_taken : (bytes : List ℕ) (cs : List Command) (rest : List ℕ) → Reads bytes cs rest → (stream_of rest).commands ≡ [] → (stream_of bytes).commands ≡ cs
all_taken bytes cs rest reads is = commands_are bytes cs rest reads ∙ ap (λ (l : List Command). cs ++ l) is ∙ append-nil cs

first_are : (bytes : List ℕ) (cs : List Command) (rest : List ℕ) (n : ℕ) → Reads bytes cs rest → n ≡ length cs → take n (stream_of bytes).commands ≡ cs
first_are bytes cs rest n reads count =
    ap (λ (k : ℕ). take k (stream_of bytes).commands) count ∙ ap (take (length cs)) (commands_are bytes cs rest reads)
    ∙ take-append_seam cs (stream_of rest).commands

length_one : {X : Type 0} (xs : List X) (x : X) → length (xs ++ x ∷ []) ≡ length xs + 1
length_one xs x = length-append xs (x ∷ [])

-- ---- the replies

frames_one : (rs : List Response) (r : Response) → reply_frames (rs ++ r ∷ []) ≡ reply_frames rs ++ reply_frame r
frames_one [] r = append-nil (reply_frame r)
frames_one (q ∷ rs) r = ap (λ (l : List ℕ). reply_frame q ++ l) (frames_one rs r) ∙ sym (append_assoc (reply_frame q) (reply_frames rs) (reply_frame r))

-- ---- why a session stops

none_in : frame_in [] ≡ no_frame
unfolding frame_in
none_in = refl

-- a fault of the stream comes after all its commands
fault_ends : (read : List ℕ) (cs : List Command) (pending : List ℕ) (done : ℕ) → Reads read cs pending → done ≡ length cs
    → (f : FrameFault) → frame_in pending ≡ bad_frame f → EndsAt (stream_of read) done [] f
fault_ends read cs pending done taken count f is =
    let over : stream_of pending ≡ empty_stream (at_fault f) = stream_fault pending f is in (
      end_is read cs pending taken ∙ ap (λ (x : Stream). x.end) over,
      count ∙ ap length (sym (all_taken read cs pending taken (ap (λ (x : Stream). x.commands) over))),
    )

-- in place of a reply that is too long a fault is written
stops_too_long : (stream : Stream) (done : ℕ) (r : Response) → longest_frame < length (reply_body r)
    → (why : SessionFailure) (begun : List ℕ) → TellsFault TooLong why begun → StopsFor why stream done (r ∷ []) begun
stops_too_long stream done r long (BadFrame n) begun (number, told) = (TooLong, (long, refl), number, told)
stops_too_long stream done r long WriteFailed begun (left, splits) = (left, inr (TooLong, (long, refl), splits))
stops_too_long stream done r long NoMemory begun is = is
stops_too_long stream done r long ReadFailed begun is = absurd is
stops_too_long stream done r long CutFrame begun is = absurd is

-- a session that stops between two commands
stops_for : (read : List ℕ) (cs : List Command) (pending : List ℕ) (done : ℕ) → Reads read cs pending → done ≡ length cs
    → (why : SessionFailure) (begun : List ℕ) → StopsReading pending why begun → StopsFor why (stream_of read) done [] begun
stops_for read cs pending done taken count ReadFailed begun (is, empty) =
    (refl, empty, count ∙ ap length (sym (all_taken read cs pending taken (ap (λ (x : Stream). x.commands) (stream_none pending is)))))
stops_for read cs pending done taken count CutFrame begun (is, cut, empty) =
    let over : stream_of pending ≡ empty_stream (stream_end pending) = stream_none pending is in (
      refl,
      empty,
      end_is read cs pending taken ∙ ap (λ (x : Stream). x.end) over ∙ cut,
      count ∙ ap length (sym (all_taken read cs pending taken (ap (λ (x : Stream). x.commands) over))),
    )
stops_for read cs pending done taken count (BadFrame n) begun (f, is, number, told) =
    (f, fault_ends read cs pending done taken count f is, number, told)
stops_for read cs pending done taken count WriteFailed begun (f, is, cut) =
    (cut.0, inr (f, fault_ends read cs pending done taken count f is, cut.1))
stops_for read cs pending done taken count NoMemory begun is = is

-- a session that stops at a reply
stops_for_reply : (stream : Stream) (done : ℕ) (r : Response) (why : SessionFailure) (begun : List ℕ) → StopsTelling r why begun → StopsFor why stream done (r ∷ []) begun
stops_for_reply stream done r why begun (inl (is, cut)) =
    subst (λ (w : SessionFailure). StopsFor w stream done (r ∷ []) begun) (sym is) (cut.0, inl (r, refl, cut.1))
stops_for_reply stream done r why begun (inr (inl (long, told))) = stops_too_long stream done r long why begun told
stops_for_reply stream done r why begun (inr (inr (is, empty))) =
    subst (λ (w : SessionFailure). StopsFor w stream done (r ∷ []) begun) (sym is) empty

-- ---- a session

module _ {S : Type 0} (answers : S → DebugEvent Listing → Response → S → Type 0) where
  serves_one : (s : S) (cs : List Command) (rs : List Response) (t : S) (c : Command) (r : Response) (u : S)
      → Serves answers s cs rs t → Answered answers t c r u → Serves answers s (cs ++ c ∷ []) (rs ++ r ∷ []) u
  serves_one s [] [] t c r u is last = (u, subst (λ (x : S). Answered answers x c r u) is last, refl)
  serves_one s [] (q ∷ rs) t c r u is last = absurd is
  serves_one s (d ∷ cs) [] t c r u is last = absurd is
  serves_one s (d ∷ cs) (q ∷ rs) t c r u (next, first, others) last = (next, first, serves_one next cs rs t c r u others last)

  serves_length : (s : S) (cs : List Command) (rs : List Response) (t : S) → Serves answers s cs rs t → length cs ≡ length rs
  serves_length s [] [] t is = refl
  serves_length s [] (q ∷ rs) t is = absurd is
  serves_length s (d ∷ cs) [] t is = absurd is
  serves_length s (d ∷ cs) (q ∷ rs) t (next, first, others) = ap suc (serves_length next cs rs t others)

  -- `done` commands were read and answered, and their replies written
  pub record Session (s : S) (input output : Option (List ℕ)) (t : S) (input' output' : Option (List ℕ)) (pending : List ℕ) (done : ℕ) : Type 0 where
    pub read : List ℕ
    pub commands : List Command
    pub responses : List Response
    pub is_read : input' ≡ appended input read
    pub taken : Reads read commands pending
    pub answered : Serves answers s commands responses t
    pub is_written : output' ≡ appended output (reply_frames responses)
    pub count : done ≡ length commands

  pub opens : (s : S) (input output : Option (List ℕ)) (pending : List ℕ) → pending ≡ [] → Session s input output s input output pending 0
  opens s input output pending empty = record {
    read = [];
    commands = [];
    responses = [];
    is_read = more_none input;
    taken = empty;
    answered = refl;
    is_written = more_none output;
    count = refl;
  }

  -- more bytes were read, and nothing was written
  pub reads_on : (s : S) (input output : Option (List ℕ)) (t : S) (input' output' : Option (List ℕ)) (pending : List ℕ) (done : ℕ)
      → Session s input output t input' output' pending done
      → (input'' : Option (List ℕ)) (bytes : List ℕ) → input'' ≡ appended input' bytes → Session s input output t input'' output' (pending ++ bytes) done
  reads_on s input output t input' output' pending done was input'' bytes is = record {
    read = was.read ++ bytes;
    commands = was.commands;
    responses = was.responses;
    is_read = joined input input' input'' was.read bytes was.is_read is;
    taken = reads_more was.read was.commands pending bytes was.taken;
    answered = was.answered;
    is_written = was.is_written;
    count = was.count;
  }

  -- a command was answered, and its reply written
  pub tells_one : (s : S) (input output : Option (List ℕ)) (t : S) (input' output' : Option (List ℕ)) (pending : List ℕ) (done : ℕ)
      → Session s input output t input' output' pending done
      → (c : Command) (rest : List ℕ) (r : Response) (u : S) (output'' : Option (List ℕ))
      → frame_in pending ≡ one_frame c rest → Answered answers t c r u → output'' ≡ appended output' (reply_frame r)
      → Session s input output u input' output'' rest (done + 1)
  tells_one s input output t input' output' pending done was c rest r u output'' found is written = record {
    read = was.read;
    commands = was.commands ++ c ∷ [];
    responses = was.responses ++ r ∷ [];
    is_read = was.is_read;
    taken = reads_one was.read was.commands pending c rest was.taken found;
    answered = serves_one s was.commands was.responses t c r u was.answered is;
    is_written = joined output output' output'' (reply_frames was.responses) (reply_frame r) was.is_written written
        ∙ ap (appended output) (sym (frames_one was.responses r));
    count = ap (λ (n : ℕ). n + 1) was.count ∙ sym (length_one was.commands c);
  }

  -- ---- at a read

  all_answered : (s : S) (input output : Option (List ℕ)) (t : S) (input' output' : Option (List ℕ)) (pending : List ℕ) (done : ℕ)
      → Session s input output t input' output' pending done → (m : Moment) → IsNeeded pending input' output' m → AllAnswered answers s input output m
  all_answered s input output t input' output' pending done was m needed =
      let taken : Reads (was.read ++ needed.read) was.commands (pending ++ needed.read) =
      reads_more was.read was.commands pending needed.read was.taken in
      let over : stream_of (pending ++ needed.read) ≡ empty_stream (stream_end (pending ++ needed.read)) = stream_none (pending ++ needed.read) needed.none_left in
      let all : (stream_of (was.read ++ needed.read)).commands ≡ was.commands =
      all_taken (was.read ++ needed.read) was.commands (pending ++ needed.read) taken (ap (λ (x : Stream). x.commands) over) in
      record {
        read = was.read ++ needed.read;
        responses = was.responses;
        last = t;
        is_read = joined input input' m.read was.read needed.read was.is_read needed.is_read;
        answered = subst (λ (cs : List Command). Serves answers s cs was.responses t) (sym all) was.answered;
        is_written = needed.is_written ∙ was.is_written;
      }

  pub reads_none : (s : S) (input output : Option (List ℕ)) (old : Option (List Moment)) → EachRead (AllAnswered answers s input output) old old
  reads_none s input output old = none_since (AllAnswered answers s input output) old

  -- the reads of one more command began when all whole commands had been answered
  pub reads_promptly : (s : S) (input output : Option (List ℕ)) (t : S) (input' output' : Option (List ℕ)) (pending : List ℕ) (done : ℕ)
      → Session s input output t input' output' pending done → (old mid new new' : Option (List Moment))
      → EachRead (AllAnswered answers s input output) old mid → EachRead (IsNeeded pending input' output') mid new → new' ≡ new
      → EachRead (AllAnswered answers s input output) old new'
  reads_promptly s input output t input' output' pending done was old mid new new' before reads same =
      same_since (AllAnswered answers s input output) old new new'
      (more_since (AllAnswered answers s input output) (IsNeeded pending input' output') old mid new before reads
      (all_answered s input output t input' output' pending done was)) same

  -- ---- the end of a session

  pub ends : (s : S) (input output : Option (List ℕ)) (t : S) (input' output' : Option (List ℕ)) (pending : List ℕ) (done : ℕ)
      → Session s input output t input' output' pending done → pending ≡ []
      → (read written : List ℕ) × (input' ≡ appended input read) × (output' ≡ appended output written)
      × IsServed answers s read written (record { done = done; told = done }) t
  ends s input output t input' output' pending done was empty =
      let none_found : frame_in pending ≡ no_frame = ap frame_in empty ∙ none_in in
      let over : stream_of pending ≡ empty_stream (stream_end pending) = stream_none pending none_found in
      let all : (stream_of was.read).commands ≡ was.commands = all_taken was.read was.commands pending was.taken (ap (λ (x : Stream). x.commands) over) in
      let count : done ≡ length (stream_of was.read).commands = was.count ∙ ap length (sym all) in (
        was.read,
        reply_frames was.responses,
        was.is_read,
        was.is_written,
        record {
          responses = was.responses;
          are_frames = subst₂ (λ (cs : List Command) (rest : List ℕ). AreFrames was.read cs rest) (sym all) empty
              (frames_are was.read was.commands pending was.taken);
          answered = subst (λ (cs : List Command). Serves answers s cs was.responses t) (sym all) was.answered;
          is_written = refl;
          ends = end_is was.read was.commands pending was.taken ∙ ap (λ (x : Stream). x.end) over ∙ ap stream_end empty;
          done = count;
          told = count;
        },
      )

  -- the session stopped between two commands
  pub stops : (s : S) (input output : Option (List ℕ)) (t : S) (input' output' : Option (List ℕ)) (pending : List ℕ) (done : ℕ)
      → Session s input output t input' output' pending done
      → (why : SessionFailure) (output'' : Option (List ℕ)) (begun : List ℕ) → output'' ≡ appended output' begun → StopsReading pending why begun
      → (read written : List ℕ) × (input' ≡ appended input read) × (output'' ≡ appended output written)
      × IsStopped answers s read written (record { why = why; done = done; told = done }) t
  stops s input output t input' output' pending done was why output'' begun wrote reason =
      let first : take done (stream_of was.read).commands ≡ was.commands = first_are was.read was.commands pending done was.taken was.count in (
        was.read,
        reply_frames was.responses ++ begun,
        was.is_read,
        joined output output' output'' (reply_frames was.responses) begun was.is_written wrote,
        record {
          responses = was.responses;
          untold = [];
          begun = begun;
          rest = pending;
          are_frames = subst (λ (cs : List Command). AreFrames was.read cs pending) (sym first) (frames_are was.read was.commands pending was.taken);
          answered = subst₂ (λ (cs : List Command) (rs : List Response). Serves answers s cs rs t) (sym first) (sym (append-nil was.responses)) was.answered;
          is_written = refl;
          told = was.count ∙ serves_length s was.commands was.responses t was.answered;
          done = omega arith;
          at_most_one = omega arith;
          reason = stops_for was.read was.commands pending done was.taken was.count why begun reason;
        },
      )

  -- the session stopped at a reply
  pub stops_telling : (s : S) (input output : Option (List ℕ)) (t : S) (input' output' : Option (List ℕ)) (pending : List ℕ) (done : ℕ)
      → Session s input output t input' output' pending done
      → (c : Command) (rest : List ℕ) (r : Response) (u : S) → frame_in pending ≡ one_frame c rest → Answered answers t c r u
      → (why : SessionFailure) (output'' : Option (List ℕ)) (begun : List ℕ) → output'' ≡ appended output' begun → StopsTelling r why begun
      → (read written : List ℕ) × (input' ≡ appended input read) × (output'' ≡ appended output written)
      × IsStopped answers s read written (record { why = why; done = done + 1; told = done }) u
  stops_telling s input output t input' output' pending done was c rest r u found is why output'' begun wrote reason =
      let taken : Reads was.read (was.commands ++ c ∷ []) rest = reads_one was.read was.commands pending c rest was.taken found in
      let count : done + 1 ≡ length (was.commands ++ c ∷ []) = ap (λ (n : ℕ). n + 1) was.count ∙ sym (length_one was.commands c) in
      let first : take (done + 1) (stream_of was.read).commands ≡ was.commands ++ c ∷ [] =
      first_are was.read (was.commands ++ c ∷ []) rest (done + 1) taken count in (
        was.read,
        reply_frames was.responses ++ begun,
        was.is_read,
        joined output output' output'' (reply_frames was.responses) begun was.is_written wrote,
        record {
          responses = was.responses;
          untold = r ∷ [];
          begun = begun;
          rest = rest;
          are_frames = subst (λ (cs : List Command). AreFrames was.read cs rest) (sym first) (frames_are was.read (was.commands ++ c ∷ []) rest taken);
          answered = subst (λ (cs : List Command). Serves answers s cs (was.responses ++ r ∷ []) u) (sym first)
              (serves_one s was.commands was.responses t c r u was.answered is);
          is_written = refl;
          told = was.count ∙ serves_length s was.commands was.responses t was.answered;
          done = omega arith;
          at_most_one = omega arith;
          reason = stops_for_reply (stream_of was.read) (done + 1) r why begun reason;
        },
      )

  -- ---- one turn: more bytes are read, and something is written

  -- a command was found and answered, and its reply written
  pub goes_on : (s : S) (input output : Option (List ℕ)) (t : S) (input₁ output₁ : Option (List ℕ)) (pending : List ℕ) (done : ℕ)
      → Session s input output t input₁ output₁ pending done
      → (input₂ output₂ : Option (List ℕ)) (read begun : List ℕ) → input₂ ≡ appended input₁ read → output₂ ≡ appended output₁ begun
      → (c : Command) (rest : List ℕ) → (frame_in (pending ++ read) ≡ one_frame c rest) × (begun ≡ [])
      → (r : Response) (u : S) → Answered answers t c r u
      → (input₃ output₃ : Option (List ℕ)) → input₃ ≡ input₂ → output₃ ≡ appended output₂ (reply_frame r)
      → Session s input output u input₃ output₃ rest (done + 1)
  goes_on s input output t input₁ output₁ pending done was input₂ output₂ read begun is_read is_written c rest found r u is input₃ output₃ same wrote =
      let on = reads_on s input output t input₁ output₁ pending done was input₂ read is_read in
      let quiet : output₂ ≡ output₁ = is_written ∙ ap (appended output₁) found.1 ∙ sym (more_none output₁) in
      let written : output₃ ≡ appended output₁ (reply_frame r) = wrote ∙ ap (λ (w : Option (List ℕ)). appended w (reply_frame r)) quiet in
      subst (λ (w : Option (List ℕ)). Session s input output u w output₃ rest (done + 1)) (sym same)
      (tells_one s input output t input₂ output₁ (pending ++ read) done on c rest r u output₃ found.0 is written)

  -- the input ended
  pub ends_with : (s : S) (input output : Option (List ℕ)) (t : S) (input₁ output₁ : Option (List ℕ)) (pending : List ℕ) (done : ℕ)
      → Session s input output t input₁ output₁ pending done
      → (input₂ output₂ : Option (List ℕ)) (read begun : List ℕ) → input₂ ≡ appended input₁ read → output₂ ≡ appended output₁ begun
      → (pending ++ read ≡ []) × (begun ≡ [])
      → (read written : List ℕ) × (input₂ ≡ appended input read) × (output₂ ≡ appended output written)
      × IsServed answers s read written (record { done = done; told = done }) t
  ends_with s input output t input₁ output₁ pending done was input₂ output₂ read begun is_read is_written found =
      let on = reads_on s input output t input₁ output₁ pending done was input₂ read is_read in
      let quiet : output₂ ≡ output₁ = is_written ∙ ap (appended output₁) found.1 ∙ sym (more_none output₁) in
      let over = ends s input output t input₂ output₁ (pending ++ read) done on found.0 in
      (over.0, over.1, over.2, quiet ∙ over.3, over.4)

  -- no further command was found
  pub stops_with : (s : S) (input output : Option (List ℕ)) (t : S) (input₁ output₁ : Option (List ℕ)) (pending : List ℕ) (done : ℕ)
      → Session s input output t input₁ output₁ pending done
      → (input₂ output₂ : Option (List ℕ)) (read begun : List ℕ) → input₂ ≡ appended input₁ read → output₂ ≡ appended output₁ begun
      → (why : SessionFailure) → StopsReading (pending ++ read) why begun
      → (read written : List ℕ) × (input₂ ≡ appended input read) × (output₂ ≡ appended output written)
      × IsStopped answers s read written (record { why = why; done = done; told = done }) t
  stops_with s input output t input₁ output₁ pending done was input₂ output₂ read begun is_read is_written why reason =
      stops s input output t input₂ output₁ (pending ++ read) done
      (reads_on s input output t input₁ output₁ pending done was input₂ read is_read) why output₂ begun is_written reason

  -- a command was found and answered, but its reply wasn't written
  pub stops_telling_with : (s : S) (input output : Option (List ℕ)) (t : S) (input₁ output₁ : Option (List ℕ)) (pending : List ℕ) (done : ℕ)
      → Session s input output t input₁ output₁ pending done
      → (input₂ output₂ : Option (List ℕ)) (read begun : List ℕ) → input₂ ≡ appended input₁ read → output₂ ≡ appended output₁ begun
      → (c : Command) (rest : List ℕ) → (frame_in (pending ++ read) ≡ one_frame c rest) × (begun ≡ [])
      → (r : Response) (u : S) → Answered answers t c r u
      → (input₃ output₃ : Option (List ℕ)) → input₃ ≡ input₂
      → (why : SessionFailure) (told : List ℕ) → output₃ ≡ appended output₂ told → StopsTelling r why told
      → (read written : List ℕ) × (input₃ ≡ appended input read) × (output₃ ≡ appended output written)
      × IsStopped answers s read written (record { why = why; done = done + 1; told = done }) u
  stops_telling_with s input output t input₁ output₁ pending done was input₂ output₂ read begun is_read is_written c rest found r u is input₃ output₃ same why told wrote reason =
      let on = reads_on s input output t input₁ output₁ pending done was input₂ read is_read in
      let quiet : output₂ ≡ output₁ = is_written ∙ ap (appended output₁) found.1 ∙ sym (more_none output₁) in
      let over = stops_telling s input output t input₂ output₁ (pending ++ read) done on c rest r u found.0 is why output₃ told
      (wrote ∙ ap (λ (w : Option (List ℕ)). appended w told) quiet) reason in
      (over.0, over.1, same ∙ over.2, over.3, over.4)

  -- the commands can't be counted further
  pub gives_out : (s : S) (input output : Option (List ℕ)) (t : S) (input₁ output₁ : Option (List ℕ)) (pending : List ℕ) (done : ℕ)
      → Session s input output t input₁ output₁ pending done → (all : ℕ) → done ≡ all
      → (read written : List ℕ) × (input₁ ≡ appended input read) × (output₁ ≡ appended output written)
      × IsStopped answers s read written (record { why = NoMemory; done = all; told = all }) t
  gives_out s input output t input₁ output₁ pending done was all is =
      let at_end : Session s input output t input₁ output₁ pending all = subst (λ (k : ℕ). Session s input output t input₁ output₁ pending k) is was in
      stops s input output t input₁ output₁ pending all at_end NoMemory output₁ [] (more_none output₁) refl
