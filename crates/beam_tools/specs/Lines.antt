-- What command lines ask for, and why a program refuses them.
use Rattle.std.specs.Prelude.{◌≡◌, ◌≢◌, ◌<◌, ◌⊎◌, ⊤, ℕ, List, Option, Some, None, codes, length, option_and_then, true}
use Rattle.std.specs.Str.{chars}
use Rattle.std.specs.Io.KnownBytes.{Appends}
use Rattle.clap.specs.Words.{App, IsAmong, Row, Text, fault_of, first_of, matches_of, subcommand_of}
use Rattle.clap.specs.declared.error.kind.ErrorKind.{ErrorKind}
use Rattle.clap.specs.declared.error.kind.ErrorKind.TheVariants as kind
use Rattle.beam_term.specs.Prelude.{TermValue}
use Rattle.beam_tools.specs.Call.{AreArguments}
use Rattle.beam_tools.specs.Options.{CallLine, Line, call, inspect_in, is_pipe_set, is_stop_set, level_of, line_in, line_of, mode_of, node_app, range_of, replay_in, serve_in, start_of, sync_of}
use Rattle.beam_tools.specs.Program.{help_of, version_of}
use Rattle.beam_tools.specs.declared.fault.RunFault.{RunFault}
use Rattle.beam_tools.specs.declared.fault.RunFault.TheVariants as fault
use Rattle.beam_tools.specs.declared.program.Program.{Program}
use Rattle.beam_tools.specs.declared.early_exit.EarlyExit.{EarlyExit}
use Rattle.beam_tools.specs.declared.early_exit.EarlyExit.TheVariants as stop
use Rattle.beam_tools.specs.declared.early_exit.Wrong.{Wrong}
use Rattle.beam_tools.specs.declared.early_exit.Wrong.TheVariants as wrong

-- by this command, the words ask for the help, or for the version
abbrev pub AskForHelp : App → List Text → Type 0
AskForHelp app words = IsAmong kind.DisplayHelp (fault_of app words)

abbrev pub AskForVersion : App → List Text → Type 0
AskForVersion app words = IsAmong kind.DisplayVersion (fault_of app words)

-- the command refuses the words, for another reason than that they ask for the help or the version
abbrev pub AreWrong : App → List Text → Type 0
AreWrong app words = (k : ErrorKind) × IsAmong k (fault_of app words) × (k ≢ kind.DisplayHelp) × (k ≢ kind.DisplayVersion)

-- one of the two files has no value in the matches
abbrev pub NameNoFile : App → List Text → Type 0
NameNoFile app words = (first_of (codes "in") (matches_of app words) ≡ None) ⊎ (first_of (codes "out") (matches_of app words) ≡ None)

-- both files have this name
abbrev pub NameOne : App → List Text → Text → Type 0
NameOne app words name = (first_of (codes "in") (matches_of app words) ≡ Some name) × (first_of (codes "out") (matches_of app words) ≡ Some name)

-- what is wrong with a call
abbrev pub CallIsWrong : CallLine → Wrong → Type 0
CallIsWrong line (wrong.LongModule name) = (name.now ≡ line.module_name) × (255 < length (chars line.module_name))
CallIsWrong line (wrong.LongFunction name) = (name.now ≡ line.function_name) × (255 < length (chars line.function_name))
CallIsWrong line (wrong.NoList text) = (text.now ≡ line.arguments) × ((arguments : List TermValue) → AreArguments line.arguments arguments → ⊥)
CallIsWrong line _ = ⊥

-- the words ask for a call with which this is wrong
abbrev pub AskWrongly : List Text → Wrong → Type 0
AskWrongly words w = (line : CallLine) × (line_of words ≡ Some (call line)) × CallIsWrong line w

-- what is wrong with the matches of `serve`
abbrev pub ServeIsWrong : List Row → Wrong → Type 0
ServeIsWrong rows (wrong.NoLevel text) = (first_of (codes "log") rows ≡ Some text.now) × (level_of text.now ≡ None)
ServeIsWrong rows (wrong.NoStart text) = (first_of (codes "start") rows ≡ Some text.now) × (start_of text.now ≡ None)
ServeIsWrong rows (wrong.NoSync text) = (first_of (codes "sync") rows ≡ Some text.now) × (sync_of text.now ≡ None)
ServeIsWrong rows wrong.StopsWithJournal = (is_stop_set rows ≡ true) × ((name : Text) × (first_of (codes "journal") rows ≡ Some name))
ServeIsWrong rows (wrong.NoMode text) = (first_of (codes "socket-mode") rows ≡ Some text.now) × (mode_of text.now ≡ None)
ServeIsWrong rows (wrong.LongSocket path) = (first_of (codes "socket") rows ≡ Some path.now) × (102 < length path.now)
ServeIsWrong rows wrong.NoAddress = (first_of (codes "port") rows ≡ None) × (first_of (codes "socket") rows ≡ None)
ServeIsWrong rows wrong.TokenAlone = (first_of (codes "http") rows ≡ None) × ((name : Text) × (first_of (codes "http-token") rows ≡ Some name))
ServeIsWrong rows wrong.NoCommand = serve_in rows ≡ None
ServeIsWrong rows _ = ⊥

-- `serve` was entered with matches with which this is wrong
abbrev pub EntersWrongly : Option (Text × List Row) → Wrong → Type 0
EntersWrongly entered w = (rows : List Row) × (entered ≡ Some (codes "serve", rows)) × ServeIsWrong rows w

-- the words ask for a service with which this is wrong
abbrev pub AskToServeWrongly : List Text → Wrong → Type 0
AskToServeWrongly words w = EntersWrongly (subcommand_of node_app words) w

-- the matches of `replay` name entries or a process to print
abbrev pub NameSomeToPrint : List Row → Type 0
NameSomeToPrint rows = ((text : Text) × (first_of (codes "print") rows ≡ Some text)) ⊎ ((pid : ℕ) × (inspect_in rows ≡ Some pid))

-- what is wrong with the matches of `replay`
abbrev pub ReplayIsWrong : List Row → Wrong → Type 0
ReplayIsWrong rows (wrong.NoRange text) = (first_of (codes "print") rows ≡ Some text.now) × (range_of text.now ≡ None)
ReplayIsWrong rows wrong.PipesAndPrints = (is_pipe_set rows ≡ true) × NameSomeToPrint rows
ReplayIsWrong rows wrong.NoCommand = replay_in rows ≡ None
ReplayIsWrong rows _ = ⊥

-- `replay` was entered with matches with which this is wrong
abbrev pub EntersReplayWrongly : Option (Text × List Row) → Wrong → Type 0
EntersReplayWrongly entered w = (rows : List Row) × (entered ≡ Some (codes "replay", rows)) × ReplayIsWrong rows w

-- the words ask for a replay with which this is wrong
abbrev pub AskToReplayWrongly : List Text → Wrong → Type 0
AskToReplayWrongly words w = EntersReplayWrongly (subcommand_of node_app words) w

-- what a wrong line implies for the words
abbrev pub WrongSays : App → List Text → Wrong → Type 0
WrongSays app words (wrong.Words text) = AreWrong app words
WrongSays app words wrong.NoText = ⊥
WrongSays app words wrong.NoCommand = line_of words ≡ None
WrongSays app words wrong.NoFile = NameNoFile app words
WrongSays app words (wrong.Same name) = NameOne app words name.now
WrongSays app words (wrong.LongModule name) = AskWrongly words (wrong.LongModule name)
WrongSays app words (wrong.LongFunction name) = AskWrongly words (wrong.LongFunction name)
WrongSays app words (wrong.NoList text) = AskWrongly words (wrong.NoList text)
WrongSays app words (wrong.NoLevel text) = AskToServeWrongly words (wrong.NoLevel text)
WrongSays app words (wrong.NoStart text) = AskToServeWrongly words (wrong.NoStart text)
WrongSays app words (wrong.NoSync text) = AskToServeWrongly words (wrong.NoSync text)
WrongSays app words wrong.StopsWithJournal = AskToServeWrongly words wrong.StopsWithJournal
WrongSays app words (wrong.NoMode text) = AskToServeWrongly words (wrong.NoMode text)
WrongSays app words (wrong.LongSocket path) = AskToServeWrongly words (wrong.LongSocket path)
WrongSays app words wrong.NoAddress = AskToServeWrongly words wrong.NoAddress
WrongSays app words wrong.TokenAlone = AskToServeWrongly words wrong.TokenAlone
WrongSays app words (wrong.NoRange text) = AskToReplayWrongly words (wrong.NoRange text)
WrongSays app words wrong.PipesAndPrints = AskToReplayWrongly words wrong.PipesAndPrints

-- what an early exit implies for the words; an allocation failure implies nothing
abbrev pub StopSays : App → List Text → EarlyExit → Type 0
StopSays app words stop.Help = AskForHelp app words
StopSays app words stop.Version = AskForVersion app words
StopSays app words (stop.Wrong w) = WrongSays app words w
StopSays app words stop.NoMemory = ⊤

-- this early exit is what an error of this kind becomes
abbrev pub StopsBy : ErrorKind → EarlyExit → Type 0
StopsBy k stop.Help = k ≡ kind.DisplayHelp
StopsBy k stop.Version = k ≡ kind.DisplayVersion
StopsBy k (stop.Wrong (wrong.Words text)) = (k ≢ kind.OutOfMemory) × (k ≢ kind.DisplayHelp) × (k ≢ kind.DisplayVersion)
StopsBy k (stop.Wrong _) = ⊥
StopsBy k stop.NoMemory = ⊤

-- no line is asked for, or memory was refused
abbrev pub IsNoLine : Option Line → EarlyExit → Type 0
IsNoLine line (stop.Wrong wrong.NoCommand) = line ≡ None
IsNoLine line stop.NoMemory = ⊤
IsNoLine line _ = ⊥

-- the matches of `serve` make no service, or memory was refused
abbrev pub ServeStops : List Row → EarlyExit → Type 0
ServeStops rows (stop.Wrong w) = ServeIsWrong rows w
ServeStops rows stop.NoMemory = ⊤
ServeStops rows _ = ⊥

-- the matches of `replay` make no replay
abbrev pub ReplayStops : List Row → EarlyExit → Type 0
ReplayStops rows (stop.Wrong w) = ReplayIsWrong rows w
ReplayStops rows _ = ⊥

-- the subcommand that was entered makes no line: there is none, or its matches make none
abbrev pub OptionsStop : Option (Text × List Row) → EarlyExit → Type 0
OptionsStop entered (stop.Wrong wrong.NoCommand) = option_and_then line_in entered ≡ None
OptionsStop entered (stop.Wrong (wrong.NoLevel text)) = EntersWrongly entered (wrong.NoLevel text)
OptionsStop entered (stop.Wrong (wrong.NoStart text)) = EntersWrongly entered (wrong.NoStart text)
OptionsStop entered (stop.Wrong (wrong.NoSync text)) = EntersWrongly entered (wrong.NoSync text)
OptionsStop entered (stop.Wrong wrong.StopsWithJournal) = EntersWrongly entered wrong.StopsWithJournal
OptionsStop entered (stop.Wrong (wrong.NoMode text)) = EntersWrongly entered (wrong.NoMode text)
OptionsStop entered (stop.Wrong (wrong.LongSocket path)) = EntersWrongly entered (wrong.LongSocket path)
OptionsStop entered (stop.Wrong wrong.NoAddress) = EntersWrongly entered wrong.NoAddress
OptionsStop entered (stop.Wrong wrong.TokenAlone) = EntersWrongly entered wrong.TokenAlone
OptionsStop entered (stop.Wrong (wrong.NoRange text)) = EntersReplayWrongly entered (wrong.NoRange text)
OptionsStop entered (stop.Wrong wrong.PipesAndPrints) = EntersReplayWrongly entered wrong.PipesAndPrints
OptionsStop entered stop.NoMemory = ⊤
OptionsStop entered _ = ⊥

-- the matches don't name two files, or name one twice
abbrev pub NamesStop : List Row → EarlyExit → Type 0
NamesStop rows (stop.Wrong (wrong.Same name)) = (first_of (codes "in") rows ≡ Some name.now) × (first_of (codes "out") rows ≡ Some name.now)
NamesStop rows (stop.Wrong wrong.NoFile) = (first_of (codes "in") rows ≡ None) ⊎ (first_of (codes "out") rows ≡ None)
NamesStop rows _ = ⊥

-- the words ask for this text, the help or the version
abbrev pub IsAnswer : Program → App → List Text → List ℕ → Type 0
IsAnswer p app words text = (AskForHelp app words × (text ≡ help_of p)) ⊎ (AskForVersion app words × (text ≡ version_of p))

-- the words ask for the help or the version, and that is printed
abbrev pub IsAnswered : Program → App → List Text → Option (List ℕ) → Option (List ℕ) → Type 0
IsAnswered p app words old new = (text : List ℕ) × IsAnswer p app words text × Appends old new text

-- what a fault of the command line implies for the words
abbrev pub LineFault : App → List Text → RunFault → Type 0
LineFault app words (fault.Wrong w) = WrongSays app words w
LineFault app words fault.NoMemory = ⊤
LineFault app words fault.Unwritten = ⊤
LineFault app words _ = ⊥
