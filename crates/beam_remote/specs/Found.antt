-- What is found in a stream after the commands that were taken, and how replies are written.
use Rattle.std.specs.Prelude.{◌≡◌, ◌<◌, ◌⊎◌, ℕ, ◌++◌, List, [], length, Option, Some, None, Result, Ok, Err}
use Rattle.beam_frame.specs.declared.error.FrameError.{FrameError}
use Rattle.beam_frame.specs.declared.error.FrameError.TheVariants as frame
use Rattle.beam_machine.specs.declared.command.FrameFault.{FrameFault}
use Rattle.beam_machine.specs.declared.command.FrameFault.TheVariants.{TooLong, BadKind, BadCommand}
use Rattle.beam_machine.specs.declared.command.Response.{Response}
use Rattle.beam_machine.specs.Prelude.{Command, frame_in, no_frame, one_frame, bad_frame, stream_end, inside_frame, number_of_fault, fault_frame, reply_body, longest_frame}
use Rattle.beam_remote.specs.declared.next_command_error.NextCommandError.{NextCommandError}
use Rattle.beam_remote.specs.declared.next_command_error.NextCommandError.TheVariants as stop
use Rattle.beam_remote.specs.declared.error.SessionFailure.{SessionFailure}
use Rattle.beam_remote.specs.declared.error.SessionFailure.TheVariants.{ReadFailed, WriteFailed, CutFrame, BadFrame, NoMemory}
use Rattle.beam_remote.specs.Serving.{reply_frame}
use Rattle.beam_remote.specs.DeviceHistory.{Moment, appended, saturating_increment}

-- ---- reading

-- why no further command is read after an error of the reader of frames
abbrev pub of_frame_error : FrameError → NextCommandError
of_frame_error frame.TooLong = stop.Fault TooLong
of_frame_error frame.BadKind = stop.Fault BadKind
of_frame_error frame.BadCommand = stop.Fault BadCommand
of_frame_error frame.NoMemory = stop.NoMemory
of_frame_error frame.Failed = stop.NoMemory

-- what is found at the front of bytes of which no command was taken, and the bytes after it
abbrev pub IsFound : List ℕ → Result (Option Command) NextCommandError → List ℕ → Type 0
IsFound bytes (Ok (Some c)) rest = frame_in bytes ≡ one_frame c rest
IsFound bytes (Ok None) rest = bytes ≡ []
IsFound bytes (Err stop.ReadFailed) rest = frame_in bytes ≡ no_frame
IsFound bytes (Err stop.CutFrame) rest = (frame_in bytes ≡ no_frame) × (stream_end bytes ≡ inside_frame)
IsFound bytes (Err (stop.Fault f)) rest = frame_in bytes ≡ bad_frame f
IsFound bytes (Err stop.NoMemory) rest = Unit {0}

-- a read began when these bytes, with those read since, had no whole frame, and nothing had been written since
pub record IsNeeded (bytes : List ℕ) (input output : Option (List ℕ)) (m : Moment) : Type 0 where
  pub read : List ℕ
  pub is_read : m.read ≡ appended input read
  pub none_left : frame_in (bytes ++ read) ≡ no_frame
  pub is_written : m.written ≡ output

-- a statement, where reading came to the end of the input
abbrev pub IfAtEnd : Result (Option Command) NextCommandError → Type 0 → Type 0
IfAtEnd (Ok None) P = P
IfAtEnd (Err stop.CutFrame) P = P
IfAtEnd result P = Unit {0}

-- how many calls failed after reading
abbrev pub failures_reading : Result (Option Command) NextCommandError → ℕ → ℕ
failures_reading (Err stop.ReadFailed) n = saturating_increment n
failures_reading result n = n

-- ---- writing replies

-- how many calls had failed when a session ended so
abbrev pub failures_after : SessionFailure → ℕ → ℕ
failures_after ReadFailed n = saturating_increment n
failures_after WriteFailed n = saturating_increment n
failures_after why n = n

-- the frame of a fault was written, or only a beginning of it
abbrev pub TellsFault : FrameFault → SessionFailure → List ℕ → Type 0
TellsFault f (BadFrame n) begun = (n ≡ number_of_fault f) × (begun ≡ fault_frame f)
TellsFault f WriteFailed begun = (left : List ℕ) × (begun ++ left ≡ fault_frame f)
TellsFault f NoMemory begun = begun ≡ []
TellsFault f ReadFailed begun = ⊥
TellsFault f CutFrame begun = ⊥

-- a reply wasn't written whole: only a beginning of its frame was; or the reply is too long, and the frame of that fault was written; or
-- memory was refused
abbrev pub StopsTelling : Response → SessionFailure → List ℕ → Type 0
StopsTelling r why begun =
    ((why ≡ WriteFailed) × ((left : List ℕ) × (begun ++ left ≡ reply_frame r)))
    ⊎ (((longest_frame < length (reply_body r)) × TellsFault TooLong why begun)
    ⊎ ((why ≡ NoMemory) × (begun ≡ [])))

abbrev pub failures_telling : Result (Unit {0}) SessionFailure → ℕ → ℕ
failures_telling (Ok done) n = n
failures_telling (Err why) n = failures_after why n

-- ---- reading, where a fault is written

-- why no further command is read, and what was written then
abbrev pub StopsReading : List ℕ → SessionFailure → List ℕ → Type 0
StopsReading bytes ReadFailed begun = (frame_in bytes ≡ no_frame) × (begun ≡ [])
StopsReading bytes CutFrame begun = (frame_in bytes ≡ no_frame) × (stream_end bytes ≡ inside_frame) × (begun ≡ [])
StopsReading bytes (BadFrame n) begun = (f : FrameFault) × (frame_in bytes ≡ bad_frame f) × (n ≡ number_of_fault f) × (begun ≡ fault_frame f)
StopsReading bytes WriteFailed begun = (f : FrameFault) × (frame_in bytes ≡ bad_frame f) × ((left : List ℕ) × (begun ++ left ≡ fault_frame f))
StopsReading bytes NoMemory begun = begun ≡ []

abbrev pub IsReceived : List ℕ → Result (Option Command) SessionFailure → List ℕ → List ℕ → Type 0
IsReceived bytes (Ok (Some c)) rest begun = (frame_in bytes ≡ one_frame c rest) × (begun ≡ [])
IsReceived bytes (Ok None) rest begun = (bytes ≡ []) × (begun ≡ [])
IsReceived bytes (Err why) rest begun = StopsReading bytes why begun

abbrev pub IfEnded : Result (Option Command) SessionFailure → Type 0 → Type 0
IfEnded (Ok None) P = P
IfEnded (Err CutFrame) P = P
IfEnded result P = Unit {0}

abbrev pub failures_receiving : Result (Option Command) SessionFailure → ℕ → ℕ
failures_receiving (Ok command) n = n
failures_receiving (Err why) n = failures_after why n
