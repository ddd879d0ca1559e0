-- Sessions: the commands of a stream are answered one after another, and their replies are written. (This node's own.)
use Rattle.std.specs.Prelude.{◌≡◌, ◌<◌, ◌≤◌, ◌⊎◌, ℕ, ◌+◌, false, List, [], ◌∷◌, ◌++◌, length, take, Option, Some}
use Rattle.std.specs.List.{flat_map}
use Rattle.beam_disasm.specs.Refusals.{Refuses, is_memory, layer_of, number_of}
use Rattle.beam_disasm.specs.declared.error.FileError.{FileError}
use Rattle.beam_machine.specs.declared.command.FrameFault.{FrameFault}
use Rattle.beam_machine.specs.declared.command.FrameFault.TheVariants.{TooLong}
use Rattle.beam_machine.specs.declared.command.Response.{Response}
use Rattle.beam_machine.specs.declared.debug.DebugEvent.{DebugEvent}
use Rattle.beam_machine.specs.declared.event.Event.TheVariants.{Load, LoadStrict, AtomicLoad}
use Rattle.beam_machine.specs.Prelude.{Command, IsNumber, SpellsCommand, Stream, between_frames, inside_frame, at_fault, stream_of, event_of, reply_body, frame_of, fault_frame, longest_frame, number_of_fault}
use Rattle.beam_machine.specs.declared.command.Response.TheVariants as response
use Rattle.beam_machine.specs.declared.debug.DebugEvent.TheVariants.{Node}
use Rattle.beam_machine.specs.declared.event.Refused.TheVariants as refused
use Rattle.beam_model.specs.Prelude.{listing_of_file, IsFile, IsWellFormed, Listing}
use Rattle.beam_remote.specs.declared.error.Served.{Served}
use Rattle.beam_remote.specs.declared.error.ServeError.{ServeError}
use Rattle.beam_remote.specs.declared.error.SessionFailure.{SessionFailure}
use Rattle.beam_remote.specs.declared.error.SessionFailure.TheVariants.{ReadFailed, WriteFailed, CutFrame, BadFrame, NoMemory}
use Rattle.beam_remote.specs.DeviceHistory.{Moment, appended}

-- ---- the event of a command

-- the file spells this listing, which is well formed
pub record IsPrepared (file : List ℕ) (l : Listing) : Type 0 where
  pub is_file : IsFile file l
  pub well_formed : IsWellFormed l

-- the file spells no well-formed listing: this fault of this layer is in it
pub record IsBadFile (file : List ℕ) (layer number : ℕ) : Type 0 where
  pub error : FileError
  pub stands : Refuses error (listing_of_file file)
  pub is_fault : is_memory error ≡ false
  pub has_layer : layer ≡ layer_of error
  pub has_number : number ≡ number_of error
  pub unloadable : (l : Listing) → IsPrepared file l → ⊥

-- the files spell these listings, which are well formed
abbrev pub ArePrepared : List (List ℕ) → List Listing → Type 0
ArePrepared [] [] = Unit {0}
ArePrepared [] (l ∷ ls) = ⊥
ArePrepared (file ∷ files) [] = ⊥
ArePrepared (file ∷ files) (l ∷ ls) = IsPrepared file l × ArePrepared files ls

-- the first file that spells no well-formed listing, and the fault of its layer
pub record IsFirstBad (files : List (List ℕ)) (layer number : ℕ) : Type 0 where
  pub before : List (List ℕ)
  pub bad : List ℕ
  pub others : List (List ℕ)
  pub stands : files ≡ before ++ bad ∷ others
  pub listings : List Listing
  pub prepared : ArePrepared before listings
  pub is_bad : IsBadFile bad layer number

-- the event that a command is; a load is that of the listings which its files spell
abbrev pub IsEvent : Command → DebugEvent Listing → Type 0
IsEvent (Node (Load file)) event = (l : Listing) × IsPrepared file l × (event ≡ Node (Load l))
IsEvent (Node (LoadStrict file)) event = (l : Listing) × IsPrepared file l × (event ≡ Node (LoadStrict l))
IsEvent (Node (AtomicLoad mode files)) event = (ls : List Listing) × ArePrepared files ls × (event ≡ Node (AtomicLoad mode ls))
IsEvent c event = event_of c ≡ Some event

-- the answer to a load whose file can't be prepared: its fault, or that memory was refused
abbrev pub IsUnprepared : List ℕ → Response → Type 0
IsUnprepared file (response.BadFile layer number) = IsBadFile file layer number
IsUnprepared file (response.Refused refused.NoMemory) = Unit {0}
IsUnprepared file r = ⊥

-- the answer to a load whose files can't all be prepared: the fault of the first that can't, or that memory was refused
abbrev pub AreUnprepared : List (List ℕ) → Response → Type 0
AreUnprepared files (response.BadFile layer number) = IsFirstBad files layer number
AreUnprepared files (response.Refused refused.NoMemory) = Unit {0}
AreUnprepared files r = ⊥

abbrev pub IsUnloaded : Command → Response → Type 0
IsUnloaded (Node (Load file)) r = IsUnprepared file r
IsUnloaded (Node (LoadStrict file)) r = IsUnprepared file r
IsUnloaded (Node (AtomicLoad mode files)) r = AreUnprepared files r
IsUnloaded c r = ⊥

-- ---- the answers

-- a command is answered as its event is, or it is a load whose files aren't prepared, which changes nothing
abbrev pub Answered : {S : Type 0} → (S → DebugEvent Listing → Response → S → Type 0) → S → Command → Response → S → Type 0
Answered answers s c r t = ((event : DebugEvent Listing) × IsEvent c event × answers s event r t) ⊎ (IsUnloaded c r × (t ≡ s))

-- commands are answered one after another
abbrev pub Serves : {S : Type 0} → (S → DebugEvent Listing → Response → S → Type 0) → S → List Command → List Response → S → Type 0
Serves answers s [] [] t = t ≡ s
Serves answers s [] (r ∷ rs) t = ⊥
Serves answers s (c ∷ cs) [] t = ⊥
Serves {S} answers s (c ∷ cs) (r ∷ rs) t = (next : S) × Answered answers s c r next × Serves answers next cs rs t

-- ---- what is read

-- a frame: four bytes with the length of a kind and a body, which isn't too great, and then the kind and the body, which spell a command
pub record IsFrame (bytes : List ℕ) (c : Command) : Type 0 where
  pub size : List ℕ
  pub kind : ℕ
  pub body : List ℕ
  pub stands : bytes ≡ size ++ kind ∷ body
  pub counts : IsNumber 4 size (length (kind ∷ body))
  pub short : length (kind ∷ body) ≤ longest_frame
  pub spells : SpellsCommand kind body c

-- bytes are the frames of these commands, one after another, and then the rest
abbrev pub AreFrames : List ℕ → List Command → List ℕ → Type 0
AreFrames bytes [] rest = bytes ≡ rest
AreFrames bytes (c ∷ cs) rest = (frame appended : List ℕ) × (bytes ≡ frame ++ appended) × IsFrame frame c × AreFrames appended cs rest

-- ---- what is written

abbrev pub reply_frame : Response → List ℕ
reply_frame r = frame_of (reply_body r)

abbrev pub reply_frames : List Response → List ℕ
reply_frames rs = flat_map reply_frame rs

-- ---- when a session reads on

-- at this moment all commands in whole frames had been answered, and their replies, and nothing else, had been written
pub record AllAnswered {S : Type 0} (answers : S → DebugEvent Listing → Response → S → Type 0) (s : S) (input output : Option (List ℕ)) (m : Moment) : Type 0 where
  pub read : List ℕ
  pub responses : List Response
  pub last : S
  pub is_read : m.read ≡ appended input read
  pub answered : Serves answers s (stream_of read).commands responses last
  pub is_written : m.written ≡ appended output (reply_frames responses)

-- ---- how a session ends

-- all commands in the bytes that were read were answered, and all replies written; these bytes end between two frames
pub record IsServed {S : Type 0} (answers : S → DebugEvent Listing → Response → S → Type 0) (s : S) (read written : List ℕ) (served : Served) (t : S) : Type 0 where
  pub responses : List Response
  pub are_frames : AreFrames read (stream_of read).commands []
  pub answered : Serves answers s (stream_of read).commands responses t
  pub is_written : written ≡ reply_frames responses
  pub ends : (stream_of read).end ≡ between_frames
  pub done : served.done ≡ length (stream_of read).commands
  pub told : served.told ≡ length (stream_of read).commands

-- the fault with which a session ends: one of the stream, after its last command; or the fault of a last reply that is too long
abbrev pub EndsAt : Stream → ℕ → List Response → FrameFault → Type 0
EndsAt stream done [] f = (stream.end ≡ at_fault f) × (done ≡ length stream.commands)
EndsAt stream done (r ∷ rs) f = (longest_frame < length (reply_body r)) × (f ≡ TooLong)

-- the frame after the replies that were written: the last reply's, or that of the fault with which the session ends
abbrev pub ComesNext : Stream → ℕ → List Response → List ℕ → Type 0
ComesNext stream done untold frame =
    ((r : Response) × (untold ≡ r ∷ []) × (frame ≡ reply_frame r))
    ⊎ ((f : FrameFault) × EndsAt stream done untold f × (frame ≡ fault_frame f))

-- why a session stopped after `done` commands, with no reply unwritten or one, and with these bytes written after the replies that were
-- written whole
abbrev pub StopsFor : SessionFailure → Stream → ℕ → List Response → List ℕ → Type 0
StopsFor ReadFailed stream done untold begun = (untold ≡ []) × (begun ≡ []) × (done ≡ length stream.commands)
StopsFor WriteFailed stream done untold begun = (left : List ℕ) × ComesNext stream done untold (begun ++ left)
StopsFor CutFrame stream done untold begun = (untold ≡ []) × (begun ≡ []) × (stream.end ≡ inside_frame) × (done ≡ length stream.commands)
StopsFor (BadFrame n) stream done untold begun = (f : FrameFault) × EndsAt stream done untold f × (n ≡ number_of_fault f) × (begun ≡ fault_frame f)
StopsFor NoMemory stream done untold begun = begun ≡ []

-- the first commands in the bytes that were read were answered. All replies, or all but the last, were written whole, and then perhaps a
-- beginning of the next frame
pub record IsStopped {S : Type 0} (answers : S → DebugEvent Listing → Response → S → Type 0) (s : S) (read written : List ℕ) (e : ServeError) (t : S) : Type 0 where
  pub responses : List Response
  pub untold : List Response
  pub begun : List ℕ
  pub rest : List ℕ
  pub are_frames : AreFrames read (take e.done (stream_of read).commands) rest
  pub answered : Serves answers s (take e.done (stream_of read).commands) (responses ++ untold) t
  pub is_written : written ≡ reply_frames responses ++ begun
  pub told : e.told ≡ length responses
  pub done : e.done ≡ e.told + length untold
  pub at_most_one : length untold ≤ 1
  pub reason : StopsFor e.why (stream_of read) e.done untold begun
