-- The program `beamnode`: what its faults imply, and what it prints.
use Rattle.std.specs.Prelude.{◌≡◌, ◌≢◌, ◌⊎◌, ◌++◌, ℕ, List, Option, Some, ⊤}
use Rattle.std.specs.Io.KnownBytes.{Appends}
use Rattle.clap.specs.Words.{Text}
use Rattle.beam_term.specs.Prelude.{TermValue}
use Rattle.beam_model.specs.Prelude.{text_of}
use Rattle.beam_machine.specs.Prelude.{normal, empty}
use Rattle.beam_tools.specs.Call.{ComesTo, HasExit, HasValue, IsSpent, IsStuck}
use Rattle.beam_tools.specs.Files.{Contents}
use Rattle.beam_tools.specs.Lines.{CallIsWrong, IsAnswer, WrongSays}
use Rattle.beam_tools.specs.Names.{newline}
use Rattle.beam_tools.specs.Options.{CallLine, call, line_of, node_app}
use Rattle.beam_tools.specs.Unloaded.{IsFirstUnloaded}
use Rattle.beam_tools.specs.declared.fault.RunFault.{RunFault}
use Rattle.beam_tools.specs.declared.fault.RunFault.TheVariants.{Exit, File, NoMemory, Spent, Stuck, Unwritten, Wrong}
use Rattle.beam_tools.specs.declared.program.Program.TheVariants.{Node}
use Rattle.beam_tools.specs.declared.rounds.CallOutcome.{CallOutcome}
use Rattle.beam_tools.specs.declared.rounds.CallOutcome.TheVariants as outcome

-- the outcome of the rounds that a fault reports
abbrev pub OutcomeSays : CallOutcome → RunFault → Type 0
OutcomeSays o (Exit e) = (reason : TermValue) × (value : TermValue) × (reason ≢ normal)
    × (o ≡ outcome.Ended reason value) × (e.reason.items ≡ text_of reason)
OutcomeSays o Stuck = o ≡ outcome.Stuck
OutcomeSays o Spent = o ≡ outcome.Spent
OutcomeSays o NoMemory = ⊤
OutcomeSays o _ = ⊥

-- what a fault implies for a call before it runs: it can't be made
abbrev pub EntrySays : CallLine → RunFault → Type 0
EntrySays line (Wrong w) = CallIsWrong line w
EntrySays line NoMemory = ⊤
EntrySays line _ = ⊥

-- what a fault before a call has run implies for it: which file isn't loaded, or why the call can't be made
abbrev pub CallSays : Contents → CallLine → RunFault → Type 0
CallSays files line (Wrong w) = CallIsWrong line w
CallSays files line (File f) = IsFirstUnloaded files line.files empty f.name.now f.why
CallSays files line NoMemory = ⊤
CallSays files line _ = ⊥

-- what a fault of a run implies for its call
abbrev pub RunSays : Contents → CallLine → RunFault → Type 0
RunSays files line (Wrong w) = CallIsWrong line w
RunSays files line (File f) = IsFirstUnloaded files line.files empty f.name.now f.why
RunSays files line (Exit e) = (reason : TermValue) × (value : TermValue) × (reason ≢ normal)
    × ComesTo files line (outcome.Ended reason value) × (e.reason.items ≡ text_of reason)
RunSays files line Stuck = ComesTo files line outcome.Stuck
RunSays files line Spent = ComesTo files line outcome.Spent
RunSays files line NoMemory = ⊤
RunSays files line Unwritten = ⊤

-- what a fault implies for the words
abbrev pub FaultSays : Contents → List Text → RunFault → Type 0
FaultSays files words (Wrong w) = WrongSays node_app words w
FaultSays files words (File f) = (line : CallLine) × (line_of words ≡ Some (call line)) × IsFirstUnloaded files line.files empty f.name.now f.why
FaultSays files words (Exit e) = (reason : TermValue) × HasExit files words reason × (e.reason.items ≡ text_of reason)
FaultSays files words Stuck = IsStuck files words
FaultSays files words Spent = IsSpent files words
FaultSays files words NoMemory = ⊤
FaultSays files words Unwritten = ⊤

-- a fault that implies nothing for the outcome of the rounds
abbrev pub TellsNoEnd : RunFault → Type 0
TellsNoEnd NoMemory = ⊤
TellsNoEnd Unwritten = ⊤
TellsNoEnd _ = ⊥

-- the text of a value, as a line
abbrev pub value_line : TermValue → List ℕ
value_line value = text_of value ++ newline

-- the text of the value that a call comes to
abbrev pub IsValueLine : Contents → CallLine → List ℕ → Type 0
IsValueLine files line text = (value : TermValue) × ComesTo files line (outcome.Ended normal value) × (text ≡ value_line value)

-- what a run prints: the value of the call, with a newline, or the help or the version, as the words ask
abbrev pub Prints : Contents → List Text → List ℕ → Type 0
Prints files words text =
    ((value : TermValue) × HasValue files words value × (text ≡ value_line value)) ⊎ IsAnswer Node node_app words text

-- a run with status 0: its text is printed
abbrev pub IsDone : Contents → List Text → Option (List ℕ) → Option (List ℕ) → Type 0
IsDone files words old new = (text : List ℕ) × Prints files words text × Appends old new text
