-- What a command line of `beamnode` leaves to be done, and the messages about its end.
use Rattle.std.specs.Prelude.{◌≡◌, ◌≢◌, ◌++◌, ◌<◌, ◌⊎◌, ⊤, ℕ, List, [], Option, Some, None, codes, if◌then◌else◌, length}
use Rattle.std.specs.Str.{chars}
use Rattle.std.specs.Fmt.{decimal}
use Rattle.clap.specs.Words.{Text}
use Rattle.beam_machine.specs.declared.event.Refused.{Refused}
use Rattle.beam_remote.specs.declared.error.SessionFailure.{SessionFailure as SessionWhy}
use Rattle.beam_tools.specs.Fault.{is_verbose, message_of}
use Rattle.beam_tools.specs.Names.{journal_fault_name, newline, refusal_name, session_name, socket_fault_name}
use Rattle.beam_tools.specs.Options.{Line, pipe, replay, replay_line, serve, serve_line}
use Rattle.beam_tools.specs.Place.{file_place, journal_place, os_error_line, socket_place}
use Rattle.beam_tools.specs.declared.fault.RunFault.TheVariants.{File}
use Rattle.beam_tools.specs.declared.job.Job.{Job}
use Rattle.beam_tools.specs.declared.job.Job.TheVariants.{Done, Pipe, Replay, Serve}
use Rattle.beam_tools.specs.declared.job.JobFault.{JobFault}
use Rattle.beam_tools.specs.declared.job.JobFault.TheVariants as fault
use Rattle.beam_tools.specs.declared.journal_fault.JournalFault.{JournalFault}
use Rattle.beam_tools.specs.declared.program.Program.TheVariants.{Node}
use Rattle.beam_tools.specs.declared.socket_fault.SocketFault.{SocketFault}

-- a line that asks for a session over the standard streams, to serve connections, or for a replay
abbrev pub IsService : Option Line → Type 0
IsService (Some pipe) = ⊤
IsService (Some (serve line)) = ⊤
IsService (Some (replay line)) = ⊤
IsService _ = ⊥

-- a statement of the status, where nothing is left to be done
abbrev pub IfDone : Job → (ℕ → Type 0) → Type 0
IfDone (Done status) P = P status
IfDone _ P = ⊤

-- a statement of the line that asks for it, where something is left to be done
abbrev pub IfLeft : Job → (Line → Type 0) → Type 0
IfLeft (Done status) P = ⊤
IfLeft Pipe P = P pipe
IfLeft (Serve line) P = P (serve (serve_line line))
IfLeft (Replay line) P = P (replay (replay_line line))

-- the message about a session that stops
abbrev pub session_message : SessionWhy → List ℕ
session_message why = codes "beamnode: pipe: " ++ session_name why ++ newline

-- the message about a port
abbrev pub port_message : ℕ → List ℕ
port_message port = codes "beamnode: 127.0.0.1:" ++ decimal port ++ codes ": NetFailed\n"

-- the message about a process that can't be started
abbrev pub start_message : Refused → List ℕ
start_message refused = codes "beamnode: serve: " ++ refusal_name refused ++ newline

-- the message about a journal's file
abbrev pub journal_message : JournalFault → List ℕ
journal_message f = codes "beamnode: " ++ f.name.now ++ codes ": " ++ journal_fault_name f.why ++ newline

-- the message about a socket
abbrev pub socket_message : SocketFault → List ℕ
socket_message f = codes "beamnode: " ++ f.path.now ++ codes ": " ++ socket_fault_name f.why ++ newline

-- the message about a job that isn't done to its end
abbrev pub job_message : JobFault → List ℕ
job_message (fault.Pipe why os_error) = session_message why
job_message (fault.Net port os_error) = port_message port
job_message (fault.Socket f) = socket_message f
job_message (fault.Http port os_error) = port_message port
job_message (fault.Token name) = codes "beamnode: " ++ name.now ++ codes ": WriteFailed\n"
job_message (fault.File f) = message_of Node (File f)
job_message (fault.Start refused) = start_message refused
job_message fault.LongName = codes "beamnode: serve: TooLong\n"
job_message fault.JournalFull = codes "beamnode: serve: JournalFull\n"
job_message fault.Mismatch = codes "beamnode: serve: Mismatch\n"
job_message fault.ProcessesOut = codes "beamnode: serve: ProcessesOut\n"
job_message fault.Unwritten = codes "beamnode: output: WriteFailed\n"
job_message fault.NoMemory = codes "beamnode: NoMemory\n"
job_message (fault.Journal f) = journal_message f
job_message (fault.NoProcess name) = codes "beamnode: " ++ name.now ++ codes ": NoProcess\n"
job_message (fault.LongView name) = codes "beamnode: " ++ name.now ++ codes ": TooLong\n"

-- more about the fault: the operating system's error, or where the fault of a file or of a journal's file lies
abbrev pub job_place : JobFault → List ℕ
job_place (fault.Pipe why (Some os_error)) = os_error_line os_error
job_place (fault.Net port os_error) = os_error_line os_error
job_place (fault.Http port os_error) = os_error_line os_error
job_place (fault.Socket f) = socket_place f.why
job_place (fault.File f) = file_place [] f.why
job_place (fault.Journal f) = journal_place f.why
job_place _ = []

-- the message about a job's fault, and more where the words ask for it
abbrev pub job_text : List Text → JobFault → List ℕ
job_text words f = job_message f ++ (if is_verbose words then job_place f else [])

-- the port that was asked for; if that is 0, any; no port, where none was asked for
abbrev pub IsAskedPort : Option ℕ → ℕ → Type 0
IsAskedPort (Some port) p = port ≢ 0 → p ≡ port
IsAskedPort None p = ⊥

-- a network fault is of this port; if that is 0, of the port that the operating system gave; without a port there is none
abbrev pub IsOfPort : Option ℕ → JobFault → Type 0
IsOfPort port (fault.Pipe why os_error) = ⊥
IsOfPort port (fault.Net p os_error) = IsAskedPort port p
IsOfPort port _ = ⊤

-- why no atom has this text; an allocation failure implies nothing
abbrev pub NamingSays : Text → JobFault → Type 0
NamingSays text fault.LongName = 255 < length (chars text)
NamingSays text fault.NoMemory = ⊤
NamingSays text _ = ⊥

-- why no process starts with a function of these names
abbrev pub StartingSays : Text → Text → JobFault → Type 0
StartingSays module_name function_name fault.LongName = (255 < length (chars module_name)) ⊎ (255 < length (chars function_name))
StartingSays module_name function_name fault.NoMemory = ⊤
StartingSays module_name function_name _ = ⊥
