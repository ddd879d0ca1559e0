-- The state of a reader of frames.
use Rattle.std.specs.Prelude.{◌≡◌, ℕ, zero, suc, Bool, true, false, List, [], ◌∷◌, ◌++◌, length}
use Rattle.beam_machine.specs.declared.command.FrameFault.{FrameFault}
use Rattle.beam_machine.specs.Prelude.{Command, FirstFrame, no_frame, one_frame, bad_frame, frame_in, at_fault, Stream, stream_end, empty_stream}
use Rattle.beam_frame.specs.declared.error.FrameError.{FrameError}
use Rattle.beam_frame.specs.declared.error.FrameError.TheVariants.{Failed}
use Rattle.beam_frame.specs.Faults.{IsErrorOf}

-- the bytes that belong to no frame that was read, and whether there was an error
pub record Reader : Type 0 where
  pub pending : List ℕ
  pub failed : Bool

-- a reader without an error
abbrev pub waiting : List ℕ → Reader
waiting bytes = record { pending = bytes; failed = false }

-- a reader that has an error answers Failed
abbrev pub Answers : FrameError → Reader → Type 0
Answers Failed reader = reader.failed ≡ true
Answers e reader = (reader.failed ≡ false) × IsErrorOf e (frame_in reader.pending)

-- ---- a stream that comes in pieces

-- the front that was found, with more bytes after its frame
abbrev pub before_more : List ℕ → FirstFrame → FirstFrame
before_more more no_frame = no_frame
before_more more (one_frame c rest) = one_frame c (rest ++ more)
before_more more (bad_frame f) = bad_frame f

-- the rest once `next` answers no command: bytes without a whole frame, or a fault
pub data Left : Type 0 where
  waits : List ℕ → Left
  broken : FrameFault → Left

pub record Decoded : Type 0 where
  pub commands : List Command
  pub left : Left

abbrev pub decoded_after : Command → Decoded → Decoded
decoded_after c told = record told { commands = c ∷ told.commands }

abbrev pub decode_step : (List ℕ → Decoded) → List ℕ → FirstFrame → Decoded
decode_step again bytes no_frame = record { commands = []; left = waits bytes }
decode_step again bytes (one_frame c rest) = decoded_after c (again rest)
decode_step again bytes (bad_frame f) = record { commands = []; left = broken f }

-- the answers of at most n calls of `next`
unfoldable pub decoded_within : ℕ → List ℕ → Decoded
decoded_within zero bytes = record { commands = []; left = waits bytes }
decoded_within (suc n) bytes = decode_step (decoded_within n) bytes (frame_in bytes)

-- the answers of `next` until it answers no command; each command takes five bytes or more
abbrev pub decoded_of : List ℕ → Decoded
decoded_of bytes = decoded_within (length bytes) bytes

abbrev pub then_stream : (List ℕ → Stream) → List Command → Left → Stream
then_stream next commands (waits bytes) = record { commands = commands ++ (next bytes).commands; end = (next bytes).end }
then_stream next commands (broken f) = record { commands = commands; end = at_fault f }

-- the answers for a stream in pieces: each is fed after the rest of those before, and then `next` is called until it answers no command
unfoldable pub stream_in : List (List ℕ) → List ℕ → Stream
stream_in [] bytes = empty_stream (stream_end bytes)
stream_in (piece ∷ pieces) bytes = then_stream (stream_in pieces) (decoded_of (bytes ++ piece)).commands (decoded_of (bytes ++ piece)).left
