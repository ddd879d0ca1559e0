-- The program `beamas`: its command line, and the file that it writes.
use Rattle.std.specs.Prelude.{◌≡◌, ◌⊎◌, ◌++◌, ◌||◌, ⊤, ℕ, Bool, List, [], Option, Some, codes, false, Ok, Err}
use Rattle.std.specs.Str.{IsUtf8}
use Rattle.std.specs.Io.KnownBytes.{append_known}
use Rattle.clap.specs.Words.{App, Rule, Text, first_of, matches_of, new_app, new_rule, with_rule}
use Rattle.clap.specs.declared.builder.ArgAction.TheVariants.{SetTrue}
use Rattle.beam_asm.specs.Refusals.{Refuses}
use Rattle.beam_model.specs.Prelude.{HasFile, Listing, listing_of_text, syntax, unknown, IsLoadable}
use Rattle.beam_tools.specs.Fault.{has_word, is_verbose}
use Rattle.beam_tools.specs.Files.{Contents, HasBytes, Written, with_file}
use Rattle.beam_tools.specs.Lines.{IsAnswered, WrongSays}
use Rattle.beam_tools.specs.Report.{report_text}
use Rattle.beam_tools.specs.Rules.{positional_rule, verbose_rule, with_version}
use Rattle.beam_tools.specs.declared.fault.RunFault.{RunFault}
use Rattle.beam_tools.specs.declared.fault.RunFault.TheVariants as fault
use Rattle.beam_tools.specs.declared.fault.FileFaultKind.{FileFaultKind}
use Rattle.beam_tools.specs.declared.fault.FileFaultKind.TheVariants as why
use Rattle.beam_tools.specs.declared.program.Program.TheVariants.{Assembler}

-- `--all`
abbrev pub all_rule : Rule
all_rule = record (new_rule (codes "all")) { long = Some (codes "all"); action = Some SetTrue }

-- the command `beamas`
abbrev pub as_app : App
as_app = with_rule (with_rule (with_rule (with_rule (with_version (new_app (codes "beamas"))) verbose_rule) all_rule) (positional_rule (codes "in")))
    (positional_rule (codes "out"))

-- the words ask for more than the message and the place of a fault
abbrev pub asks_more : List Text → Bool
asks_more words = has_word (codes "--all") words || is_verbose words

-- a fault is written to the error output, and then more, if the words ask for it
abbrev pub IsReportedBeside : List Text → List ℕ → RunFault → Option (List ℕ) → Option (List ℕ) → Type 0
IsReportedBeside words text f old new = (more : List ℕ) × (new ≡ append_known old (report_text Assembler words text f ++ more))
    × (asks_more words ≡ false → more ≡ [])

-- the files that the words name
abbrev pub input_of : List Text → Option Text
input_of words = first_of (codes "in") (matches_of as_app words)

abbrev pub output_of : List Text → Option Text
output_of words = first_of (codes "out") (matches_of as_app words)

-- these bytes are the file of the listing in this text, which can be loaded
abbrev pub HasFileOf : List ℕ → List ℕ → Type 0
HasFileOf text bytes = (l : Listing) × (listing_of_text text ≡ Ok l) × IsLoadable l × HasFile l bytes

-- these bytes are the file of the listing in the text of the file of that name
abbrev pub IsAssembled : Contents → Text → List ℕ → Type 0
IsAssembled files name bytes = (text : List ℕ) × HasBytes files name text × HasFileOf text bytes

-- the file of the first file's listing is written under the second name
abbrev pub IsWrittenAs : Contents → Text → Text → Written → Written → Type 0
IsWrittenAs files input output old new = (bytes : List ℕ) × IsAssembled files input bytes × (new ≡ with_file old output bytes)

-- the words name two files, and the file of the first one's listing is written under the second name
abbrev pub IsWritten : Contents → List Text → Written → Written → Type 0
IsWritten files words old new =
    (input : Text) × (output : Text) × (input_of words ≡ Some input) × (output_of words ≡ Some output) × IsWrittenAs files input output old new

-- why this text has no listing with a file
abbrev pub IsNoListing : List ℕ → FileFaultKind → Type 0
IsNoListing text why.NoText = IsUtf8 text → ⊥
IsNoListing text (why.Syntax line) = listing_of_text text ≡ Err (syntax line)
IsNoListing text (why.UnknownForm line) = listing_of_text text ≡ Err (unknown line)
IsNoListing text (why.Unassembled e) = (l : Listing) × (listing_of_text text ≡ Ok l) × Refuses e l
IsNoListing text why.NoMemory = ⊤
IsNoListing text _ = ⊥

-- why the file of that name, with this text, isn't assembled; a failed device and an allocation failure imply nothing
abbrev pub IsNotAssembled : Contents → Text → List ℕ → FileFaultKind → Type 0
IsNotAssembled files name text (why.Unread e) = ⊤
IsNotAssembled files name text e = HasBytes files name text × IsNoListing text e

-- the file at which the run fails: the second one where it can't be written, and otherwise the first one, with this text
abbrev pub FileSays : Contents → Text → Text → List ℕ → Text → FileFaultKind → Type 0
FileSays files input output text name (why.Unwritten os_error) = name ≡ output
FileSays files input output text name e = (name ≡ input) × IsNotAssembled files name text e

-- what a fault implies for the two files
abbrev pub NameSays : Contents → Text → Text → List ℕ → RunFault → Type 0
NameSays files input output text (fault.File f) = FileSays files input output text f.name.now f.why
NameSays files input output text _ = ⊥

-- what a fault implies for the words, and for the text that was read
abbrev pub FaultSays : Contents → List Text → List ℕ → RunFault → Type 0
FaultSays files words text (fault.Wrong w) = WrongSays as_app words w
FaultSays files words text (fault.File f) =
    (input : Text) × (output : Text) × (input_of words ≡ Some input) × (output_of words ≡ Some output) × FileSays files input output text f.name.now f.why
FaultSays files words text fault.NoMemory = ⊤
FaultSays files words text fault.Unwritten = ⊤
FaultSays files words text _ = ⊥

-- a run with status 0: a file is written and nothing printed, or the help or version is printed and no file written
abbrev pub IsDone : Contents → List Text → Written → Written → Option (List ℕ) → Option (List ℕ) → Type 0
IsDone files words written then old new =
    (IsWritten files words written then × (new ≡ old)) ⊎ ((then ≡ written) × IsAnswered Assembler as_app words old new)
