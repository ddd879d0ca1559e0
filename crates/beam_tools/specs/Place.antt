-- Where faults lie: the line that `-v` adds.
use Rattle.std.specs.Prelude.{◌-◌, ◌++◌, ◌==◌, ℕ, zero, suc, List, [], ◌∷◌, codes, if◌then◌else◌}
use Rattle.std.specs.Fmt.{decimal}
use Rattle.beam_code.specs.declared.error.CodeError.TheVariants.{BadOperand, UnsupportedOpcode}
use Rattle.beam_disasm.specs.declared.error.FileError.TheVariants.{Code}
use Rattle.beam_tools.specs.Fault.{word_of}
use Rattle.beam_tools.specs.Names.{kind_text, newline}
use Rattle.beam_tools.specs.declared.fault.RunFault.{RunFault}
use Rattle.beam_tools.specs.declared.fault.RunFault.TheVariants.{Exit, File, Wrong}
use Rattle.beam_tools.specs.declared.fault.FileFaultKind.{FileFaultKind}
use Rattle.beam_tools.specs.declared.fault.FileFaultKind.TheVariants.{BadFile, Syntax, UnknownForm, Unread, Unwritten}
use Rattle.beam_tools.specs.declared.files.ReadError.TheVariants.{ReadFailed}
use Rattle.beam_tools.specs.declared.journal_fault.JournalFaultKind.{JournalFaultKind}
use Rattle.beam_tools.specs.declared.journal_fault.JournalFaultKind.TheVariants as journal
use Rattle.beam_tools.specs.declared.os_error.OsError.{OsError}
use Rattle.beam_tools.specs.declared.socket_fault.SocketFaultKind.{SocketFaultKind}
use Rattle.beam_tools.specs.declared.socket_fault.SocketFaultKind.TheVariants.{Failed}
use Rattle.beam_tools.specs.declared.early_exit.Wrong.{Wrong as WrongLine}
use Rattle.beam_tools.specs.declared.early_exit.Wrong.TheVariants.{Words}

-- ---- parts of a text

-- the bytes before the first mark: all, where there is none
abbrev pub up_to : ℕ → List ℕ → List ℕ
up_to mark [] = []
up_to mark (c ∷ cs) = if c == mark then [] else c ∷ up_to mark cs

-- the bytes after the first mark: none, where there is no mark
abbrev pub after_mark : ℕ → List ℕ → List ℕ
after_mark mark [] = []
after_mark mark (c ∷ cs) = if c == mark then cs else after_mark mark cs

-- the bytes after the first n lines
unfoldable pub after_lines : ℕ → List ℕ → List ℕ
after_lines zero text = text
after_lines (suc n) text = after_lines n (after_mark 10 text)

-- the line of that number, without its newline; lines count from 1
abbrev pub line_in : ℕ → List ℕ → List ℕ
line_in n text = up_to 10 (after_lines (n - 1) text)

-- the bytes between the first two single quotes
abbrev pub in_quotes : List ℕ → List ℕ
in_quotes text = up_to 39 (after_mark 39 text)

-- ---- places, each as a line

-- the wrong word of a command line: in the command's message, the first one in quotes
abbrev pub culprit : WrongLine → List ℕ
culprit (Words text) = in_quotes text.items
culprit w = word_of w

abbrev pub word_line : List ℕ → List ℕ
word_line [] = []
word_line (c ∷ cs) = codes "  word: " ++ (c ∷ cs) ++ newline

-- a line of a listing's text
abbrev pub text_line : ℕ → List ℕ → List ℕ
text_line n text = codes "  line " ++ decimal n ++ codes ": " ++ line_in n text ++ newline

-- a byte of the code chunk, without the end of the line
abbrev pub byte_text : ℕ → List ℕ
byte_text at = codes "  byte " ++ decimal at ++ codes " of the code chunk"

-- an opcode outside the profile, and the byte at which it is
abbrev pub opcode_line : ℕ → ℕ → List ℕ
opcode_line opcode at = byte_text at ++ codes ": opcode " ++ decimal opcode ++ newline

-- an operand that can't be read, by where it begins
abbrev pub operand_line : ℕ → List ℕ
operand_line at = byte_text at ++ newline

-- the number of an error, where there is one
abbrev pub error_text : ℕ → List ℕ
error_text zero = []
error_text (suc n) = codes ", error " ++ decimal (suc n)

-- the operating system's error of a device that failed
abbrev pub os_error_line : OsError → List ℕ
os_error_line os_error = codes "  system: " ++ kind_text os_error.kind ++ error_text os_error.code ++ newline

-- where the fault of a file with this text lies, or the operating system's error
abbrev pub file_place : List ℕ → FileFaultKind → List ℕ
file_place text (Unread (ReadFailed os_error)) = os_error_line os_error
file_place text (Unwritten os_error) = os_error_line os_error
file_place text (Syntax n) = text_line n text
file_place text (UnknownForm n) = text_line n text
file_place text (BadFile (Code (UnsupportedOpcode opcode at))) = opcode_line opcode at
file_place text (BadFile (Code (BadOperand at))) = operand_line at
file_place text _ = []

-- the byte of a journal's file at which a bad block begins, and the number of a bad entry
abbrev pub bad_line : ℕ → ℕ → List ℕ
bad_line at entry = (codes "  byte " ++ decimal at) ++ (codes ", entry " ++ decimal entry) ++ newline

-- more about the fault of a journal's file: the operating system's error, or where the fault lies
abbrev pub journal_place : JournalFaultKind → List ℕ
journal_place (journal.Unread os_error) = os_error_line os_error
journal_place (journal.Unwritten os_error) = os_error_line os_error
journal_place (journal.Unsynced os_error) = os_error_line os_error
journal_place (journal.Bad at entry) = bad_line at entry
journal_place _ = []

-- more about the fault of a socket: the operating system's error
abbrev pub socket_place : SocketFaultKind → List ℕ
socket_place (Failed os_error) = os_error_line os_error
socket_place _ = []

-- where a fault lies, or nothing where that isn't known; of an exit, the lines about the end of process 1
abbrev pub place_text : List ℕ → RunFault → List ℕ
place_text text (Wrong w) = word_line (culprit w)
place_text text (File f) = file_place text f.why
place_text text (Exit e) = e.place.items
place_text text _ = []
