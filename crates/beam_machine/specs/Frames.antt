-- Commands and replies as bytes: frames of a length in four bytes, a kind, and a body. (This node's own.)
use Rattle.std.specs.Prelude.{◌≡◌, ◌≤◌, ℕ, zero, suc, ◌-◌, ◌^◌, ◌==◌, ◌&&◌, ℤ, pos, negsuc, Bool, true, false, nat_lt, not, if◌then◌else◌, IsTrue, List, [], ◌∷◌, ◌++◌, length, take, drop, codes, Option, Some, None, option_map, option_and_then, Result, Ok, Err}
use Rattle.std.specs.List.{flat_map}
use Rattle.std.specs.Str.{is_utf8, chars}
use Rattle.byteorder.specs.Endian.{big_number, big_bytes}
use Rattle.beam_model.specs.Prelude.{IsExternal, external_bytes, ExternalFault, external_at, elements_in, same_text}
use Rattle.beam_term.specs.Prelude.{IsAtomText, TermValue, int_term, atom_term, pid_term, tuple_term, tuple_of, list_of, elements_of}
use Rattle.beam_machine.specs.declared.command.CommandKind.{CommandKind}
use Rattle.beam_machine.specs.declared.command.CommandKind.TheVariants as kind
use Rattle.beam_machine.specs.declared.command.FrameFault.{FrameFault}
use Rattle.beam_machine.specs.declared.command.FrameFault.TheVariants.{TooLong, BadKind, BadCommand}
use Rattle.beam_machine.specs.declared.command.Response.{Response}
use Rattle.beam_machine.specs.declared.command.Response.TheVariants as response
use Rattle.beam_machine.specs.declared.debug.DebugEvent.{DebugEvent}
use Rattle.beam_machine.specs.declared.debug.DebugEvent.TheVariants.{Node, SetBreak, ClearBreak, Resume, StepOne, Inspect}
use Rattle.beam_machine.specs.declared.debug.DebugReply.TheVariants as debug_reply
use Rattle.beam_machine.specs.declared.debug.Spot.{Spot}
use Rattle.beam_machine.specs.declared.debug.Version.{Version}
use Rattle.beam_machine.specs.declared.debug.Version.TheVariants.{Current, Old}
use Rattle.beam_machine.specs.declared.event.Event.TheVariants as event
use Rattle.beam_machine.specs.declared.event.UpgradeMode.{UpgradeMode}
use Rattle.beam_machine.specs.declared.event.UpgradeMode.TheVariants.{Strict, Soft, Hard}
use Rattle.beam_machine.specs.declared.event.Numbers.{Numbers}
use Rattle.beam_machine.specs.declared.event.Reply.TheVariants as reply
use Rattle.beam_machine.specs.declared.event.Then.{Then}
use Rattle.beam_machine.specs.declared.event.Then.TheVariants as then
use Rattle.beam_machine.specs.Debug.{DebugAnswer}
use Rattle.beam_machine.specs.Refusal.{number_of_refusal}
use Rattle.beam_machine.specs.View.{view_text}

-- ---- which bytes spell a command

-- a number in a field of this many bytes, the highest first
pub record IsNumber (count : ℕ) (field : List ℕ) (n : ℕ) : Type 0 where
  pub wide : length field ≡ count
  pub value : big_number count field ≡ n

-- a pid or a name
abbrev pub names_process : TermValue → Bool
names_process (atom_term name) = true
names_process (pid_term node id serial creation) = true
names_process t = false

abbrev pub version_text : Version → List ℕ
version_text Current = codes "current"
version_text Old = codes "old"

-- {current, Module, Label, Rows} or {old, Module, Label, Rows}
abbrev pub spot_term : Version → List ℕ → ℤ → ℤ → TermValue
spot_term version name label rows = tuple_of (atom_term (version_text version) ∷ atom_term name ∷ int_term label ∷ int_term rows ∷ [])

-- the number of a label or of rows, from 0 to 2^32 - 1; 2^32 - 1 stands for every other integer too, and no spot has it
abbrev pub spot_number : ℤ → ℕ
spot_number (pos n) = if nat_lt n (2 ^ 32) then n else 2 ^ 32 - 1
spot_number (negsuc n) = 2 ^ 32 - 1

abbrev pub spot_at : Version → List ℕ → ℤ → ℤ → Spot
spot_at version name label rows = record { version = version; «module» = name; label = spot_number label; rows = spot_number rows }

abbrev pub mode_number : UpgradeMode → ℕ
mode_number Strict = 0
mode_number Soft = 1
mode_number Hard = 2

-- files one after another, each after its size in four bytes
pub data AreFiles : List ℕ → List (List ℕ) → Type 0 where
  no_files : AreFiles [] []
  one_file : (size file rest : List ℕ) (files : List (List ℕ)) → IsNumber 4 size (length file) → AreFiles rest files
      → AreFiles (size ++ (file ++ rest)) (file ∷ files)

-- a client's command: an event, its images as files
abbrev pub Command : Type 0
Command = DebugEvent (List ℕ)

-- a body of its kind spells a command
pub data SpellsCommand : ℕ → List ℕ → Command → Type 0 where
  -- a file
  load : (file : List ℕ) → SpellsCommand 1 file (Node (event.Load file))
  load_strict : (file : List ℕ) → SpellsCommand 2 file (Node (event.LoadStrict file))
  -- the characters of a module's name
  delete : (name : List ℕ) → IsAtomText name → SpellsCommand 3 name (Node (event.Delete name))
  soft_purge : (name : List ℕ) → IsAtomText name → SpellsCommand 4 name (Node (event.SoftPurge name))
  purge : (name : List ℕ) → IsAtomText name → SpellsCommand 5 name (Node (event.Purge name))
  -- {Module, Function, Arguments}
  spawn : (body name function : List ℕ) (arguments : List TermValue) → length arguments ≤ 255
      → IsExternal body (tuple_of (atom_term name ∷ atom_term function ∷ list_of arguments ∷ [])) → SpellsCommand 6 body (Node (event.Spawn name function arguments))
  -- {PidOrName, Message}
  send : (body : List ℕ) (to message : TermValue) → IsTrue (names_process to) → IsExternal body (tuple_of (to ∷ message ∷ [])) → SpellsCommand 7 body (Node (event.Send to message))
  -- a pid and how many rows
  steps : (first second : List ℕ) (pid rows : ℕ) → IsNumber 4 first pid → IsNumber 4 second rows → SpellsCommand 8 (first ++ second) (Node (event.Steps pid rows))
  deliver : (field : List ℕ) (pid : ℕ) → IsNumber 4 field pid → SpellsCommand 9 field (Node (event.Deliver pid))
  -- milliseconds
  clock : (field : List ℕ) (now : ℕ) → IsNumber 8 field now → SpellsCommand 10 field (Node (event.Clock now))
  timeout : (field : List ℕ) (pid : ℕ) → IsNumber 4 field pid → SpellsCommand 11 field (Node (event.Timeout pid))
  set_break : (body : List ℕ) (version : Version) (name : List ℕ) (label rows : ℤ) → IsExternal body (spot_term version name label rows)
      → SpellsCommand 12 body (SetBreak (spot_at version name label rows))
  clear_break : (body : List ℕ) (version : Version) (name : List ℕ) (label rows : ℤ) → IsExternal body (spot_term version name label rows)
      → SpellsCommand 13 body (ClearBreak (spot_at version name label rows))
  resume : (field : List ℕ) (pid : ℕ) → IsNumber 4 field pid → SpellsCommand 14 field (Resume pid)
  step_one : (field : List ℕ) (pid : ℕ) → IsNumber 4 field pid → SpellsCommand 15 field (StepOne pid)
  inspect : (field : List ℕ) (pid : ℕ) → IsNumber 4 field pid → SpellsCommand 16 field (Inspect pid)
  versions : (name : List ℕ) → IsAtomText name → SpellsCommand 17 name (Node (event.Versions name))
  -- a mode, how many files, and these
  atomic_load : (mode : UpgradeMode) (count body : List ℕ) (files : List (List ℕ)) → IsNumber 4 count (length files) → AreFiles body files
      → SpellsCommand 18 (mode_number mode ∷ (count ++ body)) (Node (event.AtomicLoad mode files))

-- ---- reading a body

unfoldable pub kind_of : ℕ → Option CommandKind
kind_of n =
    if n == 1 then Some kind.Load
    else (if n == 2 then Some kind.LoadStrict
    else (if n == 3 then Some kind.Delete
    else (if n == 4 then Some kind.SoftPurge
    else (if n == 5 then Some kind.Purge
    else (if n == 6 then Some kind.Spawn
    else (if n == 7 then Some kind.Send
    else (if n == 8 then Some kind.Steps
    else (if n == 9 then Some kind.Deliver
    else (if n == 10 then Some kind.Clock
    else (if n == 11 then Some kind.Timeout
    else (if n == 12 then Some kind.SetBreak
    else (if n == 13 then Some kind.ClearBreak
    else (if n == 14 then Some kind.Resume
    else (if n == 15 then Some kind.StepOne
    else (if n == 16 then Some kind.Inspect
    else (if n == 17 then Some kind.Versions
    else (if n == 18 then Some kind.AtomicLoad else None)))))))))))))))))

unfoldable pub atom_in_body : List ℕ → Option (List ℕ)
atom_in_body body = if is_utf8 body && not (nat_lt 255 (length (chars body))) then Some body else None

unfoldable pub number_in_body : ℕ → List ℕ → Option ℕ
number_in_body count body = if length body == count then Some (big_number count body) else None

abbrev pub only_term : TermValue → List ℕ → Option TermValue
only_term t [] = Some t
only_term t (byte ∷ rest) = None

abbrev pub term_read : Result (TermValue × List ℕ) ExternalFault → Option TermValue
term_read (Ok read) = only_term read.0 read.1
term_read (Err fault) = None

-- the term that the whole body spells
unfoldable pub term_in : List ℕ → Option TermValue
term_in body = term_read (external_at body)

-- the elements of the tuple that the whole body spells
abbrev pub fields_of : TermValue → Option (List TermValue)
fields_of (tuple_term items) = Some (elements_of items)
fields_of t = None

abbrev pub fields_in : List ℕ → Option (List TermValue)
fields_in body = option_and_then fields_of (term_in body)

abbrev pub spawned : List ℕ → List ℕ → List TermValue → Option Command
spawned name function arguments = if nat_lt 255 (length arguments) then None else Some (Node (event.Spawn name function arguments))

abbrev pub spawn_of : List TermValue → Option Command
spawn_of (atom_term name ∷ atom_term function ∷ arguments ∷ []) = option_and_then (spawned name function) (elements_in arguments)
spawn_of fields = None

abbrev pub send_of : List TermValue → Option Command
send_of (to ∷ message ∷ []) = if names_process to then Some (Node (event.Send to message)) else None
send_of fields = None

abbrev pub version_of : List ℕ → Option Version
version_of text = if same_text text (codes "current") then Some Current else (if same_text text (codes "old") then Some Old else None)

abbrev pub spot_of : List TermValue → Option Spot
spot_of (atom_term text ∷ atom_term name ∷ int_term label ∷ int_term rows ∷ []) = option_map (λ version. spot_at version name label rows) (version_of text)
spot_of fields = None

-- two numbers of four bytes
abbrev pub steps_in : List ℕ → Option Command
steps_in body = option_and_then (λ pid. option_map (λ rows. Node (event.Steps pid rows)) (number_in_body 4 (drop 4 body))) (number_in_body 4 (take 4 body))

abbrev pub mode_of : ℕ → Option UpgradeMode
mode_of n = if n == 0 then Some Strict else (if n == 1 then Some Soft else (if n == 2 then Some Hard else None))

-- reads a number in four bytes at the front, and then the bytes after it, by a reader that knows the number
abbrev pub after_number : {X : Type 0} → (ℕ → List ℕ → Option X) → List ℕ → Option X
after_number read bytes = option_and_then (λ n. read n (drop 4 bytes)) (number_in_body 4 (take 4 bytes))

-- a file of that size, before others
abbrev pub file_before : (List ℕ → Option (List (List ℕ))) → ℕ → List ℕ → Option (List (List ℕ))
file_before others size bytes =
    if nat_lt (length bytes) size then None else option_map (λ files. take size bytes ∷ files) (others (drop size bytes))

-- n files, each after its size in four bytes, after which the bytes end
unfoldable pub files_in : ℕ → List ℕ → Option (List (List ℕ))
files_in zero [] = Some []
files_in zero (byte ∷ rest) = None
files_in (suc n) bytes = after_number (file_before (files_in n)) bytes

abbrev pub atomic_load_in : List ℕ → Option Command
atomic_load_in [] = None
atomic_load_in (n ∷ body) = option_and_then (λ mode. option_map (λ files. Node (event.AtomicLoad mode files)) (after_number files_in body)) (mode_of n)

-- the command of a kind that a body spells
abbrev pub command_in : CommandKind → List ℕ → Option Command
command_in kind.Load body = Some (Node (event.Load body))
command_in kind.LoadStrict body = Some (Node (event.LoadStrict body))
command_in kind.Delete body = option_map (λ name. Node (event.Delete name)) (atom_in_body body)
command_in kind.SoftPurge body = option_map (λ name. Node (event.SoftPurge name)) (atom_in_body body)
command_in kind.Purge body = option_map (λ name. Node (event.Purge name)) (atom_in_body body)
command_in kind.Spawn body = option_and_then spawn_of (fields_in body)
command_in kind.Send body = option_and_then send_of (fields_in body)
command_in kind.Steps body = steps_in body
command_in kind.Deliver body = option_map (λ pid. Node (event.Deliver pid)) (number_in_body 4 body)
command_in kind.Clock body = option_map (λ now. Node (event.Clock now)) (number_in_body 8 body)
command_in kind.Timeout body = option_map (λ pid. Node (event.Timeout pid)) (number_in_body 4 body)
command_in kind.SetBreak body = option_map (λ spot. SetBreak spot) (option_and_then spot_of (fields_in body))
command_in kind.ClearBreak body = option_map (λ spot. ClearBreak spot) (option_and_then spot_of (fields_in body))
command_in kind.Resume body = option_map (λ pid. Resume pid) (number_in_body 4 body)
command_in kind.StepOne body = option_map (λ pid. StepOne pid) (number_in_body 4 body)
command_in kind.Inspect body = option_map (λ pid. Inspect pid) (number_in_body 4 body)
command_in kind.Versions body = option_map (λ name. Node (event.Versions name)) (atom_in_body body)
command_in kind.AtomicLoad body = atomic_load_in body

-- the command that a kind and a body spell
abbrev pub command_of : ℕ → List ℕ → Option Command
command_of n body = option_and_then (λ kind. command_in kind body) (kind_of n)

-- ---- the frames of a stream

abbrev pub number_of_fault : FrameFault → ℕ
number_of_fault TooLong = 1
number_of_fault BadKind = 2
number_of_fault BadCommand = 3

-- the front of bytes: no whole frame; a command, and the bytes after its frame; or a fault
pub data FirstFrame : Type 0 where
  no_frame : FirstFrame
  one_frame : Command → List ℕ → FirstFrame
  bad_frame : FrameFault → FirstFrame

-- the greatest length of a kind and its body
abbrev pub longest_frame : ℕ
longest_frame = 8388608

abbrev pub command_or_fault : Option Command → List ℕ → FirstFrame
command_or_fault (Some c) rest = one_frame c rest
command_or_fault None rest = bad_frame BadCommand

abbrev pub of_kind : Option CommandKind → List ℕ → List ℕ → FirstFrame
of_kind (Some k) body rest = command_or_fault (command_in k body) rest
of_kind None body rest = bad_frame BadKind

-- the frame of these bytes, and the bytes after it; a frame of no bytes has no kind
abbrev pub frame_content : List ℕ → List ℕ → FirstFrame
frame_content [] rest = bad_frame BadKind
frame_content (n ∷ body) rest = of_kind (kind_of n) body rest

-- the frame of a length and the bytes after it: a length of 0, or above the limit, is a fault before its frame is whole
unfoldable pub after_length : ℕ → List ℕ → FirstFrame
after_length n rest =
    if nat_lt longest_frame n then bad_frame TooLong
    else (if nat_lt (length rest) n then no_frame else frame_content (take n rest) (drop n rest))

unfoldable pub frame_in : List ℕ → FirstFrame
frame_in bytes = if nat_lt (length bytes) 4 then no_frame else after_length (big_number 4 bytes) (drop 4 bytes)

-- how a stream ends
pub data StreamEnd : Type 0 where
  between_frames : StreamEnd
  inside_frame : StreamEnd
  at_fault : FrameFault → StreamEnd

-- the commands of the whole frames of a stream, in their order, and its end
pub record Stream : Type 0 where
  pub commands : List Command
  pub end : StreamEnd

abbrev pub stream_end : List ℕ → StreamEnd
stream_end [] = between_frames
stream_end (byte ∷ rest) = inside_frame

abbrev pub empty_stream : StreamEnd → Stream
empty_stream end = record { commands = []; end = end }

abbrev pub with_command : Command → Stream → Stream
with_command c stream = record stream { commands = c ∷ stream.commands }

abbrev pub stream_by : (List ℕ → Stream) → List ℕ → FirstFrame → Stream
stream_by stream bytes no_frame = empty_stream (stream_end bytes)
stream_by stream bytes (one_frame c rest) = with_command c (stream rest)
stream_by stream bytes (bad_frame f) = empty_stream (at_fault f)

-- the first n frames
unfoldable pub stream_within : ℕ → List ℕ → Stream
stream_within zero bytes = empty_stream (stream_end bytes)
stream_within (suc n) bytes = stream_by (stream_within n) bytes (frame_in bytes)

-- all frames: each takes five bytes or more, so there are fewer than bytes
abbrev pub stream_of : List ℕ → Stream
stream_of bytes = stream_within (length bytes) bytes

-- ---- commands as events, and answers as replies

-- a command as an event; a load is known as one once its files are prepared
abbrev pub event_of : {I : Type 0} → Command → Option (DebugEvent I)
event_of (Node (event.Load file)) = None
event_of (Node (event.LoadStrict file)) = None
event_of (Node (event.AtomicLoad mode files)) = None
event_of (Node (event.Delete name)) = Some (Node (event.Delete name))
event_of (Node (event.SoftPurge name)) = Some (Node (event.SoftPurge name))
event_of (Node (event.Purge name)) = Some (Node (event.Purge name))
event_of (Node (event.Spawn name function arguments)) = Some (Node (event.Spawn name function arguments))
event_of (Node (event.Send to message)) = Some (Node (event.Send to message))
event_of (Node (event.Steps pid rows)) = Some (Node (event.Steps pid rows))
event_of (Node (event.Deliver pid)) = Some (Node (event.Deliver pid))
event_of (Node (event.Clock now)) = Some (Node (event.Clock now))
event_of (Node (event.Timeout pid)) = Some (Node (event.Timeout pid))
event_of (SetBreak spot) = Some (SetBreak spot)
event_of (ClearBreak spot) = Some (ClearBreak spot)
event_of (Resume pid) = Some (Resume pid)
event_of (StepOne pid) = Some (StepOne pid)
event_of (Inspect pid) = Some (Inspect pid)
event_of (Node (event.Versions name)) = Some (Node (event.Versions name))

abbrev pub response_of : DebugAnswer → Response
response_of (Ok (debug_reply.Node answer)) = response.Node answer
response_of (Ok (debug_reply.Held count)) = response.Held count
response_of (Ok (debug_reply.Viewed view)) = response.Viewed (view_text view)
response_of (Err refusal) = response.Refused refusal

-- how a process stands after its rows
abbrev pub then_bytes : Then → List ℕ
then_bytes then.GoesOn = 0 ∷ []
then_bytes then.Waits = 1 ∷ []
then_bytes (then.Ended reason value) = (3 ∷ external_bytes reason) ++ external_bytes value

abbrev pub flag : Bool → ℕ
flag true = 1
flag false = 0

-- an instance's number, or 0
abbrev pub instance_number : Option ℕ → ℕ
instance_number (Some n) = n
instance_number None = 0

abbrev pub numbers_bytes : Numbers → List ℕ
numbers_bytes n = big_bytes 4 (instance_number n.current) ++ big_bytes 4 (instance_number n.old)

-- the kind and the body of a reply; refusal 6: the process is checked out, 10: the journal is full, 12: a bad file
abbrev pub reply_body : Response → List ℕ
reply_body (response.Node reply.Done) = 0 ∷ []
reply_body (response.Node (reply.Changed changed)) = 1 ∷ flag changed ∷ []
reply_body (response.Node (reply.Started pid)) = 2 ∷ big_bytes 4 pid
reply_body (response.Node (reply.Ran count after)) = (3 ∷ big_bytes 4 count) ++ then_bytes after
reply_body (response.Held count) = (3 ∷ big_bytes 4 count) ++ (2 ∷ [])
reply_body (response.Viewed text) = 4 ∷ text
reply_body (response.Node (reply.Versions current old)) = (5 ∷ big_bytes 4 (instance_number current)) ++ big_bytes 4 (instance_number old)
reply_body (response.Node (reply.Upgraded numbers)) = (8 ∷ big_bytes 4 (length numbers)) ++ flat_map numbers_bytes numbers
reply_body (response.Refused refusal) = 6 ∷ number_of_refusal refusal ∷ []
reply_body response.Busy = 6 ∷ 6 ∷ []
reply_body response.JournalFull = 6 ∷ 10 ∷ []
reply_body (response.BadFile layer number) = 6 ∷ 12 ∷ layer ∷ number ∷ []

-- the frame of a kind and its body: their length, and then they themselves
abbrev pub frame_of : List ℕ → List ℕ
frame_of bytes = big_bytes 4 (length bytes) ++ bytes

-- the last reply of a session that has a fault
abbrev pub fault_frame : FrameFault → List ℕ
fault_frame f = frame_of (7 ∷ number_of_fault f ∷ [])
