-- The program `beamdis`: its command line, and what it prints.
use Rattle.std.specs.Prelude.{◌≡◌, ◌⊎◌, ⊤, ℕ, List, Option, Some, codes}
use Rattle.std.specs.Io.KnownBytes.{Appends}
use Rattle.clap.specs.Words.{App, Text, first_of, matches_of, new_app, with_rule}
use Rattle.beam_disasm.specs.Refusals.{Fails}
use Rattle.beam_model.specs.Prelude.{listing_of_file, Listing, listing_text}
use Rattle.beam_tools.specs.Call.{IsFileOf}
use Rattle.beam_tools.specs.Files.{Contents, HasBytes}
use Rattle.beam_tools.specs.Lines.{IsAnswer, WrongSays}
use Rattle.beam_tools.specs.Output.{IsBegunOf}
use Rattle.beam_tools.specs.Rules.{positional_rule, verbose_rule, with_version}
use Rattle.beam_tools.specs.declared.fault.RunFault.{RunFault}
use Rattle.beam_tools.specs.declared.fault.RunFault.TheVariants as fault
use Rattle.beam_tools.specs.declared.fault.FileFaultKind.{FileFaultKind}
use Rattle.beam_tools.specs.declared.fault.FileFaultKind.TheVariants.{BadFile, NoMemory, Unread}
use Rattle.beam_tools.specs.declared.program.Program.TheVariants.{Disassembler}

-- the command `beamdis`
abbrev pub dis_app : App
dis_app = with_rule (with_rule (with_version (new_app (codes "beamdis"))) verbose_rule) (positional_rule (codes "in"))

-- the file that the words name
abbrev pub input_of : List Text → Option Text
input_of words = first_of (codes "in") (matches_of dis_app words)

-- the text of the listing that the file of that name spells
abbrev pub IsListingTextOf : Contents → Text → List ℕ → Type 0
IsListingTextOf files name text = (l : Listing) × IsFileOf files name l × (text ≡ listing_text l)

-- the words name a file, and this is the text of its listing
abbrev pub AsksFor : Contents → List Text → List ℕ → Type 0
AsksFor files words text = (name : Text) × (input_of words ≡ Some name) × IsListingTextOf files name text

-- why the file of that name has no text: its bytes are refused; a failed device and an allocation failure imply nothing
abbrev pub IsNotListed : Contents → Text → FileFaultKind → Type 0
IsNotListed files name (BadFile e) = (bytes : List ℕ) × HasBytes files name bytes × Fails e (listing_of_file bytes)
IsNotListed files name (Unread e) = ⊤
IsNotListed files name NoMemory = ⊤
IsNotListed files name _ = ⊥

-- what a fault implies for the file of that name
abbrev pub FileSays : Contents → Text → RunFault → Type 0
FileSays files name (fault.File f) = (f.name.now ≡ name) × IsNotListed files name f.why
FileSays files name fault.Unwritten = ⊤
FileSays files name _ = ⊥

-- a fault while the listing of that file is printed: the output fails, or memory is refused for the text
abbrev pub StopsPrinting : Text → RunFault → Type 0
StopsPrinting name (fault.File f) = (f.name.now ≡ name) × (f.why ≡ NoMemory)
StopsPrinting name fault.Unwritten = ⊤
StopsPrinting name _ = ⊥

-- what a fault implies for the words
abbrev pub FaultSays : Contents → List Text → RunFault → Type 0
FaultSays files words (fault.Wrong w) = WrongSays dis_app words w
FaultSays files words (fault.File f) = (input_of words ≡ Some f.name.now) × IsNotListed files f.name.now f.why
FaultSays files words fault.NoMemory = ⊤
FaultSays files words fault.Unwritten = ⊤
FaultSays files words _ = ⊥

-- what a run prints: the listing's text, the help or the version, as the words ask
abbrev pub Prints : Contents → List Text → List ℕ → Type 0
Prints files words text = AsksFor files words text ⊎ IsAnswer Disassembler dis_app words text

-- a run with status 0: its text is printed
abbrev pub IsDone : Contents → List Text → Option (List ℕ) → Option (List ℕ) → Type 0
IsDone files words old new = (text : List ℕ) × Prints files words text × Appends old new text

-- where the output fails, or memory is refused for the text of a listing, a beginning of what the run prints is left on the output; any
-- other fault comes before anything is printed
abbrev pub FileLeaves : {O : Type 0} → (O → Option (List ℕ)) → (List ℕ → Type 0) → FileFaultKind → O → O → Type 0
FileLeaves contents Prints NoMemory old new = IsBegunOf Prints (contents old) (contents new)
FileLeaves contents Prints _ old new = new ≡ old

abbrev pub Leaves : {O : Type 0} → (O → Option (List ℕ)) → (List ℕ → Type 0) → RunFault → O → O → Type 0
Leaves contents Prints fault.Unwritten old new = IsBegunOf Prints (contents old) (contents new)
Leaves contents Prints (fault.File f) old new = FileLeaves contents Prints f.why old new
Leaves contents Prints _ old new = new ≡ old
