-- A stream that comes in pieces: commands stay as they were found, and `next` answers each once.
use Rattle.std.proofs.Common.{◌≡◌, ◌≢◌, ℕ, zero, suc, ◌<◌, ◌≤◌, Bool, true, false, List, [], ◌∷◌, ◌++◌, length, take, drop, Option, Some, None, refl, sym, ap, ◌∙◌, arith, length-drop, length-append, append_assoc, nat_lt, ltb-false, le-ltb, append-nil}
use Rattle.std.specs.List.{flat_map}
use Rattle.std.proofs.lemmas.List.{take-append-le, drop-append-le}
use Rattle.byteorder.specs.Endian.{big_number}
use Rattle.byteorder.specs.Numbers.{big_from-append}
use Rattle.beam_machine.specs.declared.command.CommandKind.{CommandKind}
use Rattle.beam_machine.specs.declared.command.FrameFault.{FrameFault}
use Rattle.beam_machine.specs.declared.command.FrameFault.TheVariants.{TooLong}
use Rattle.beam_machine.specs.Prelude.{Command, FirstFrame, no_frame, one_frame, bad_frame, longest_frame, command_or_fault, of_kind, kind_of, command_in, frame_content, after_length, frame_in, at_fault, Stream, stream_end, empty_stream, with_command, stream_by, stream_within, stream_of}
use Rattle.beam_frame.specs.Reader.{before_more, Left, waits, broken, Decoded, decode_step, decoded_within, decoded_of, then_stream, stream_in}

spelled_more : (o : Option Command) (rest more : List ℕ) → command_or_fault o (rest ++ more) ≡ before_more more (command_or_fault o rest)
spelled_more (Some c) rest more = refl
spelled_more None rest more = refl

of_kind_more : (o : Option CommandKind) (body rest more : List ℕ) → of_kind o body (rest ++ more) ≡ before_more more (of_kind o body rest)
of_kind_more (Some k) body rest more = spelled_more (command_in k body) rest more
of_kind_more None body rest more = refl

framed_more : (bytes rest more : List ℕ) → frame_content bytes (rest ++ more) ≡ before_more more (frame_content bytes rest)
framed_more [] rest more = refl
framed_more (n ∷ body) rest more = of_kind_more (kind_of n) body rest more

after_by : (n : ℕ) (rest more : List ℕ) (long cut : Bool) → nat_lt longest_frame n ≡ long → nat_lt (length rest) n ≡ cut
    → after_length n rest ≢ no_frame → after_length n (rest ++ more) ≡ before_more more (after_length n rest)
unfolding after_length
after_by n rest more true cut e f h = rw e refl
after_by n rest more false true e f h = absurd (h (rw (e, f) refl))
after_by n rest more false false e f h =
    let fits : n ≤ length rest = ltb-false (length rest) n f in
    let longer : n ≤ length (rest ++ more) = simp length-append (omega arith) in
    rw (e, f, le-ltb (length (rest ++ more)) n longer, take-append-le n rest more fits, drop-append-le n rest more fits) (framed_more (take n rest) (drop n rest) more)

after_more : (n : ℕ) (rest more : List ℕ) → after_length n rest ≢ no_frame → after_length n (rest ++ more) ≡ before_more more (after_length n rest)
after_more n rest more h = after_by n rest more (nat_lt longest_frame n) (nat_lt (length rest) n) refl refl h

frame_by : (bytes more : List ℕ) (short : Bool) → nat_lt (length bytes) 4 ≡ short → frame_in bytes ≢ no_frame → frame_in (bytes ++ more) ≡ before_more more (frame_in bytes)
unfolding frame_in
frame_by bytes more true e h = absurd (h (rw e refl))
frame_by bytes more false e h =
    let fits : 4 ≤ length bytes = ltb-false (length bytes) 4 e in
    let longer : 4 ≤ length (bytes ++ more) = simp length-append (omega arith) in
    let found : frame_in bytes ≡ after_length (big_number 4 bytes) (drop 4 bytes) = rw e refl in
    let found_more : frame_in (bytes ++ more) ≡ after_length (big_number 4 (bytes ++ more)) (drop 4 (bytes ++ more)) = rw (le-ltb (length (bytes ++ more)) 4 longer) refl in
    let same : after_length (big_number 4 (bytes ++ more)) (drop 4 (bytes ++ more)) ≡ after_length (big_number 4 bytes) (drop 4 bytes ++ more) =
    λ i. after_length (big_from-append 4 bytes more fits i) (drop-append-le 4 bytes more fits i) in
    let there : after_length (big_number 4 bytes) (drop 4 bytes) ≢ no_frame = λ k. h (found ∙ k) in
    found_more ∙ same ∙ after_more (big_number 4 bytes) (drop 4 bytes) more there ∙ ap (before_more more) (sym found)

-- a frame at the front is found also with more bytes after it
pub frame_more : (bytes more : List ℕ) → frame_in bytes ≢ no_frame → frame_in (bytes ++ more) ≡ before_more more (frame_in bytes)
frame_more bytes more h = frame_by bytes more (nat_lt (length bytes) 4) refl h

-- ---- a frame takes bytes

spelled_rest : (o : Option Command) (rest : List ℕ) (c : Command) (left : List ℕ) → command_or_fault o rest ≡ one_frame c left → rest ≡ left
spelled_rest (Some d) rest c left e = cc
spelled_rest None rest c left e = absurd cc

of_kind_rest : (o : Option CommandKind) (body rest : List ℕ) (c : Command) (left : List ℕ) → of_kind o body rest ≡ one_frame c left → rest ≡ left
of_kind_rest (Some k) body rest c left e = spelled_rest (command_in k body) rest c left e
of_kind_rest None body rest c left e = absurd cc

framed_rest : (bytes rest : List ℕ) (c : Command) (left : List ℕ) → frame_content bytes rest ≡ one_frame c left → rest ≡ left
framed_rest [] rest c left e = absurd cc
framed_rest (n ∷ body) rest c left e = of_kind_rest (kind_of n) body rest c left e

after_rest : (n : ℕ) (bytes : List ℕ) (long cut : Bool) (c : Command) (left : List ℕ) → nat_lt longest_frame n ≡ long → nat_lt (length bytes) n ≡ cut
    → after_length n bytes ≡ one_frame c left → drop n bytes ≡ left
unfolding after_length
after_rest n bytes true cut c left e f h = let k : bad_frame TooLong ≡ one_frame c left = rw e at h in absurd cc
after_rest n bytes false true c left e f h = let k : no_frame ≡ one_frame c left = rw (e, f) at h in absurd cc
after_rest n bytes false false c left e f h = framed_rest (take n bytes) (drop n bytes) c left (rw (e, f) at h)

rest_by : (bytes : List ℕ) (short : Bool) (c : Command) (left : List ℕ) → nat_lt (length bytes) 4 ≡ short → frame_in bytes ≡ one_frame c left → length left < length bytes
unfolding frame_in
rest_by bytes true c left e h = let k : no_frame ≡ one_frame c left = rw e at h in absurd cc
rest_by bytes false c left e h =
    let fits : 4 ≤ length bytes = ltb-false (length bytes) 4 e in
    let n = big_number 4 bytes in
    let is : drop n (drop 4 bytes) ≡ left = after_rest n (drop 4 bytes) (nat_lt longest_frame n) (nat_lt (length (drop 4 bytes)) n) c left refl refl (rw e at h) in
    omega (arith, ap length is, length-drop n (drop 4 bytes), length-drop 4 bytes)

pub rest_shorter : (bytes : List ℕ) (c : Command) (left : List ℕ) → frame_in bytes ≡ one_frame c left → length left < length bytes
rest_shorter bytes c left h = rest_by bytes (nat_lt (length bytes) 4) c left refl h

nothing : frame_in [] ≡ no_frame
unfolding frame_in
nothing = refl

-- ---- the limit of frames makes no difference

goes_same : (s t : List ℕ → Stream) (bytes : List ℕ) (found : FirstFrame) → ((c : Command) (rest : List ℕ) → found ≡ one_frame c rest → s rest ≡ t rest) → stream_by s bytes found ≡ stream_by t bytes found
goes_same s t bytes no_frame same = refl
goes_same s t bytes (one_frame c rest) same = ap (with_command c) (same c rest refl)
goes_same s t bytes (bad_frame f) same = refl

within_same : (n m : ℕ) (bytes : List ℕ) → length bytes ≤ n → length bytes ≤ m → stream_within n bytes ≡ stream_within m bytes
unfolding stream_within
within_same zero zero bytes h k = refl
within_same zero (suc m) [] h k = sym (ap (stream_by (stream_within m) []) nothing)
within_same zero (suc m) (b ∷ bytes) h k = absurd (omega arith)
within_same (suc n) zero [] h k = ap (stream_by (stream_within n) []) nothing
within_same (suc n) zero (b ∷ bytes) h k = absurd (omega arith)
within_same (suc n) (suc m) bytes h k =
    goes_same (stream_within n) (stream_within m) bytes (frame_in bytes) (λ c rest e.
    let less : length rest < length bytes = rest_shorter bytes c rest e in
    within_same n m rest (omega arith) (omega arith))

pub stream_none : (bytes : List ℕ) → frame_in bytes ≡ no_frame → stream_of bytes ≡ empty_stream (stream_end bytes)
unfolding stream_within
stream_none [] e = refl
stream_none (b ∷ bytes) e = ap (stream_by (stream_within (length bytes)) (b ∷ bytes)) e

pub stream_fault : (bytes : List ℕ) (f : FrameFault) → frame_in bytes ≡ bad_frame f → stream_of bytes ≡ empty_stream (at_fault f)
unfolding stream_within
stream_fault [] f e = absurd (let k : no_frame ≡ bad_frame f = sym nothing ∙ e in cc)
stream_fault (b ∷ bytes) f e = ap (stream_by (stream_within (length bytes)) (b ∷ bytes)) e

pub stream_one : (bytes : List ℕ) (c : Command) (rest : List ℕ) → frame_in bytes ≡ one_frame c rest → stream_of bytes ≡ with_command c (stream_of rest)
unfolding stream_within
stream_one [] c rest e = absurd (let k : no_frame ≡ one_frame c rest = sym nothing ∙ e in cc)
stream_one (b ∷ bytes) c rest e =
    let less : length rest < length (b ∷ bytes) = rest_shorter (b ∷ bytes) c rest e in
    ap (stream_by (stream_within (length bytes)) (b ∷ bytes)) e ∙ ap (with_command c) (within_same (length bytes) (length rest) rest (omega arith) (omega arith))

-- ---- pieces

found_there : (bytes : List ℕ) (found : FirstFrame) → frame_in bytes ≡ found → found ≢ no_frame → frame_in bytes ≢ no_frame
found_there bytes found e h k = h (sym e ∙ k)

more_found : (bytes more : List ℕ) (found : FirstFrame) → frame_in bytes ≡ found → found ≢ no_frame → frame_in (bytes ++ more) ≡ before_more more found
more_found bytes more found e h = frame_more bytes more (found_there bytes found e h) ∙ ap (before_more more) e

one_more : (c : Command) (k : List ℕ → Stream) (commands : List Command) (left : Left) → with_command c (then_stream k commands left) ≡ then_stream k (c ∷ commands) left
one_more c k commands (waits bytes) = refl
one_more c k commands (broken f) = refl

told_by : (again : List ℕ → Decoded) (bytes more : List ℕ) (found : FirstFrame) → frame_in bytes ≡ found
    → ((rest : List ℕ) → length rest < length bytes → stream_of (rest ++ more) ≡ then_stream (λ p. stream_of (p ++ more)) (again rest).commands (again rest).left)
    → stream_of (bytes ++ more) ≡ then_stream (λ p. stream_of (p ++ more)) (decode_step again bytes found).commands (decode_step again bytes found).left
told_by again bytes more no_frame e rests = refl
told_by again bytes more (one_frame c rest) e rests =
    stream_one (bytes ++ more) c (rest ++ more) (more_found bytes more (one_frame c rest) e (λ k. cc))
    ∙ ap (with_command c) (rests rest (rest_shorter bytes c rest e))
    ∙ one_more c (λ p. stream_of (p ++ more)) (again rest).commands (again rest).left
told_by again bytes more (bad_frame f) e rests = stream_fault (bytes ++ more) f (more_found bytes more (bad_frame f) e (λ k. cc))

told_good : (n : ℕ) (bytes more : List ℕ) → length bytes ≤ n
    → stream_of (bytes ++ more) ≡ then_stream (λ p. stream_of (p ++ more)) (decoded_within n bytes).commands (decoded_within n bytes).left
unfolding decoded_within
told_good zero bytes more h = refl
told_good (suc n) bytes more h = told_by (decoded_within n) bytes more (frame_in bytes) refl (λ rest less. told_good n rest more (omega arith))

-- no whole frame is left
Settled : Left → Type 0
Settled (waits bytes) = frame_in bytes ≡ no_frame
Settled (broken f) = Unit {0}

settled_by : (again : List ℕ → Decoded) (bytes : List ℕ) (found : FirstFrame) → frame_in bytes ≡ found
    → ((rest : List ℕ) → length rest < length bytes → Settled (again rest).left) → Settled (decode_step again bytes found).left
unfolding Settled
settled_by again bytes no_frame e rests = e
settled_by again bytes (one_frame c rest) e rests = rests rest (rest_shorter bytes c rest e)
settled_by again bytes (bad_frame f) e rests = tt

settled : (n : ℕ) (bytes : List ℕ) → length bytes ≤ n → Settled (decoded_within n bytes).left
unfolding decoded_within Settled
settled zero [] h = nothing
settled zero (b ∷ bytes) h = absurd (omega arith)
settled (suc n) bytes h = settled_by (decoded_within n) bytes (frame_in bytes) refl (λ rest less. settled n rest (omega arith))

same_then : (k l : List ℕ → Stream) (commands : List Command) (left : Left) → Settled left → ((p : List ℕ) → frame_in p ≡ no_frame → k p ≡ l p)
    → then_stream k commands left ≡ then_stream l commands left
unfolding Settled
same_then k l commands (waits p) s same = ap (λ (t : Stream). record { commands = commands ++ t.commands; end = t.end }) (same p s)
same_then k l commands (broken f) s same = refl

pieces_from : (pieces : List (List ℕ)) (bytes : List ℕ) → frame_in bytes ≡ no_frame → stream_in pieces bytes ≡ stream_of (bytes ++ flat_map (λ piece. piece) pieces)
unfolding stream_in
pieces_from [] bytes e = sym (ap stream_of (append-nil bytes) ∙ stream_none bytes e)
pieces_from (piece ∷ pieces) bytes e =
    let told = decoded_of (bytes ++ piece) in
    same_then (stream_in pieces) (λ p. stream_of (p ++ flat_map (λ piece. piece) pieces)) told.commands told.left (settled (length (bytes ++ piece)) (bytes ++ piece) (omega arith)) (λ p h. pieces_from pieces p h)
    ∙ sym (told_good (length (bytes ++ piece)) (bytes ++ piece) (flat_map (λ piece. piece) pieces) (omega arith))
    ∙ ap stream_of (append_assoc bytes piece (flat_map (λ piece. piece) pieces))

pub pieces_told : (pieces : List (List ℕ)) → stream_in pieces [] ≡ stream_of (flat_map (λ piece. piece) pieces)
pieces_told pieces = pieces_from pieces [] nothing
