-- The names of refusals, and the newline.
use Rattle.std.specs.Prelude.{List, [], ◌∷◌, ℕ, codes}
use Rattle.std.specs.declared.io.ErrorKind.{ErrorKind}
use Rattle.std.specs.declared.io.ErrorKind.TheVariants as kind
use Rattle.beam_asm.specs.declared.error.AsmError.{AsmError}
use Rattle.beam_asm.specs.declared.error.AsmError.TheVariants.{AtomTooLong, Check, TooManyAtoms}
use Rattle.beam_disasm.specs.Refusals.{name_of}
use Rattle.beam_disasm.specs.declared.error.FileError.TheVariants as file
use Rattle.beam_machine.specs.declared.event.Refused.{Refused}
use Rattle.beam_machine.specs.declared.event.Refused.TheVariants as refused
use Rattle.beam_remote.specs.declared.error.SessionFailure.{SessionFailure as SessionWhy}
use Rattle.beam_remote.specs.declared.error.SessionFailure.TheVariants as session
use Rattle.beam_tools.specs.declared.fault.FileFaultKind.{FileFaultKind}
use Rattle.beam_tools.specs.declared.fault.FileFaultKind.TheVariants as why
use Rattle.beam_tools.specs.declared.files.ReadError.{ReadError}
use Rattle.beam_tools.specs.declared.files.ReadError.TheVariants as read
use Rattle.beam_tools.specs.declared.journal_fault.JournalFaultKind.{JournalFaultKind}
use Rattle.beam_tools.specs.declared.journal_fault.JournalFaultKind.TheVariants as journal
use Rattle.beam_tools.specs.declared.socket_fault.SocketFaultKind.{SocketFaultKind}
use Rattle.beam_tools.specs.declared.socket_fault.SocketFaultKind.TheVariants as socket

abbrev pub read_name : ReadError → List ℕ
read_name (read.ReadFailed os_error) = codes "ReadFailed"
read_name read.TooLong = codes "TooLong"
read_name read.NoMemory = codes "NoMemory"

-- why a session stops
abbrev pub session_name : SessionWhy → List ℕ
session_name session.ReadFailed = codes "ReadFailed"
session_name session.WriteFailed = codes "WriteFailed"
session_name session.CutFrame = codes "CutFrame"
session_name (session.BadFrame why) = codes "BadFrame"
session_name session.NoMemory = codes "NoMemory"

abbrev pub refusal_name : Refused → List ℕ
refusal_name refused.NoMemory = codes "NoMemory"
refusal_name refused.NoProcess = codes "NoProcess"
refusal_name refused.BackwardClock = codes "BackwardClock"
refusal_name refused.NotReady = codes "NotReady"
refusal_name refused.Sticky = codes "Sticky"
refusal_name refused.NotPurged = codes "NotPurged"
refusal_name refused.Duplicated = codes "Duplicated"
refusal_name refused.TooMany = codes "TooMany"
refusal_name refused.Stopped = codes "Stopped"
refusal_name refused.BadSpot = codes "BadSpot"

-- refusals of the check have the same names for a listing as for a file
abbrev pub assembly_name : AsmError → List ℕ
assembly_name (Check e) = name_of (file.Check e)
assembly_name TooManyAtoms = codes "TooManyAtoms"
assembly_name AtomTooLong = codes "AtomTooLong"

-- why a run fails at a file
abbrev pub why_name : FileFaultKind → List ℕ
why_name (why.Unread e) = read_name e
why_name (why.Unwritten os_error) = codes "WriteFailed"
why_name (why.BadFile e) = name_of e
why_name (why.Refused r) = refusal_name r
why_name why.NoText = codes "Syntax"
why_name (why.Syntax line) = codes "Syntax"
why_name (why.UnknownForm line) = codes "UnknownForm"
why_name (why.Unassembled e) = assembly_name e
why_name why.NoMemory = codes "NoMemory"

-- why a journal's file isn't read or written
abbrev pub journal_fault_name : JournalFaultKind → List ℕ
journal_fault_name (journal.Unread os_error) = codes "ReadFailed"
journal_fault_name journal.InUse = codes "JournalInUse"
journal_fault_name journal.NoJournal = codes "NoJournal"
journal_fault_name journal.OtherVersion = codes "OtherVersion"
journal_fault_name (journal.Bad at entry) = codes "BadJournal"
journal_fault_name journal.Full = codes "JournalFull"
journal_fault_name (journal.Unwritten os_error) = codes "WriteFailed"
journal_fault_name (journal.Unsynced os_error) = codes "SyncFailed"
journal_fault_name journal.Unspelled = codes "Unspelled"

-- why a socket isn't listened on
abbrev pub socket_fault_name : SocketFaultKind → List ℕ
socket_fault_name socket.InUse = codes "SocketInUse"
socket_fault_name socket.NoSocket = codes "NoSocket"
socket_fault_name (socket.Failed os_error) = codes "NetFailed"

abbrev pub newline : List ℕ
newline = 10 ∷ []

-- the operating system's error of a device, by its kind
abbrev pub kind_text : ErrorKind → List ℕ
kind_text kind.NotFound = codes "no such file or directory"
kind_text kind.PermissionDenied = codes "permission denied"
kind_text kind.AddrInUse = codes "address in use"
kind_text kind.AddrNotAvailable = codes "address not available"
kind_text kind.NotADirectory = codes "not a directory"
kind_text kind.IsADirectory = codes "is a directory"
kind_text kind.ReadOnlyFilesystem = codes "read-only file system"
kind_text kind.FilesystemLoop = codes "too many symbolic links"
kind_text kind.InvalidFilename = codes "invalid file name"
kind_text kind.InvalidInput = codes "invalid input"
kind_text kind.StorageFull = codes "no space left on the device"
kind_text kind.QuotaExceeded = codes "quota exceeded"
kind_text kind.FileTooLarge = codes "file too large"
kind_text kind.BrokenPipe = codes "broken pipe"
kind_text kind.ConnectionReset = codes "connection reset"
kind_text kind.ConnectionAborted = codes "connection aborted"
kind_text kind.TimedOut = codes "timed out"
kind_text kind.WouldBlock = codes "would block"
kind_text kind.WriteZero = codes "nothing was taken"
kind_text kind.OutOfMemory = codes "out of memory"
kind_text _ = codes "another failure"
