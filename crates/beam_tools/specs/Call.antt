-- A call of a function: files are loaded, and a process starts and runs, with those that it starts, in rounds.
use Rattle.std.specs.Prelude.{◌≡◌, ◌≢◌, ◌≤◌, length, ℕ, List, [], ◌∷◌, Some, Ok, ⊤}
use Rattle.beam_machine.specs.declared.event.Event.{Event}
use Rattle.beam_machine.specs.declared.event.Event.TheVariants.{Load, Spawn}
use Rattle.beam_machine.specs.declared.event.Reply.{Reply}
use Rattle.beam_machine.specs.Prelude.{next, normal, State, empty}
use Rattle.beam_model.specs.Prelude.{IsFile, IsWellFormed, Listing, term_of_text}
use Rattle.beam_tools.specs.declared.rounds.CallOutcome.{CallOutcome}
use Rattle.beam_tools.specs.declared.rounds.CallOutcome.TheVariants.{Ended, Spent, Stuck}
use Rattle.beam_tools.specs.Rounds.{new_round, outcome_of}
use Rattle.beam_term.specs.Prelude.{TermValue, list_of}
use Rattle.beam_tools.specs.Files.{Contents, HasBytes}
use Rattle.beam_tools.specs.Options.{CallLine, call, line_of}
use Rattle.clap.specs.Words.{Text}

-- each listing is loaded, in order, and no load is refused
abbrev pub Loads : State → List Listing → State → Type 0
Loads old [] new = new ≡ old
Loads old (l ∷ ls) new = (reply : Reply) × (s : State) × (next old (Load l) ≡ record { answer = Ok reply; state = s }) × Loads s ls new

-- the first process starts with a function
abbrev pub with_call : State → CallLine → List TermValue → State
with_call s line arguments = (next s (Spawn line.module_name line.function_name arguments)).state

-- the outcome of the rounds in which the processes run, once these listings are loaded and the first process has started
abbrev pub call_of : State → CallLine → List TermValue → CallOutcome
call_of s line arguments = outcome_of (new_round (with_call s line arguments) line.steps)

-- the file of that name has this listing
abbrev pub IsFileOf : Contents → Text → Listing → Type 0
IsFileOf files name l = (bytes : List ℕ) × HasBytes files name bytes × IsFile bytes l

-- the files have these listings, in order, which are well formed
abbrev pub AreFilesOf : Contents → List Text → List Listing → Type 0
AreFilesOf files [] [] = ⊤
AreFilesOf files (name ∷ names) (l ∷ ls) = IsFileOf files name l × IsWellFormed l × AreFilesOf files names ls
AreFilesOf files _ _ = ⊥

-- the text is a list of these terms, at most 255 of them
abbrev pub AreArguments : Text → List TermValue → Type 0
AreArguments text arguments = (term_of_text text ≡ Ok (list_of arguments)) × (length arguments ≤ 255)

-- an event that starts the function of a call, with the arguments in its text
abbrev pub StartsCall : CallLine → Event Listing → Type 0
StartsCall line event = (arguments : List TermValue) × AreArguments line.arguments arguments
    × (event ≡ Spawn line.module_name line.function_name arguments)

-- a call comes to this outcome, with the listings of its files and the arguments in its text
abbrev pub ComesTo : Contents → CallLine → CallOutcome → Type 0
ComesTo files line outcome = (ls : List Listing) × (s : State) × (arguments : List TermValue)
    × Loads empty ls s × AreFilesOf files line.files ls × AreArguments line.arguments arguments × (outcome ≡ call_of s line arguments)

-- the words ask for a call that comes to this outcome
abbrev pub CallComesTo : Contents → List Text → CallOutcome → Type 0
CallComesTo files words outcome = (line : CallLine) × (line_of words ≡ Some (call line)) × ComesTo files line outcome

-- process 1 of the call ended with the reason `normal` and this value
abbrev pub HasValue : Contents → List Text → TermValue → Type 0
HasValue files words value = CallComesTo files words (Ended normal value)

-- process 1 ended with this reason, which isn't `normal`
abbrev pub HasExit : Contents → List Text → TermValue → Type 0
HasExit files words reason = (reason ≢ normal) × ((value : TermValue) × CallComesTo files words (Ended reason value))

-- process 1 hasn't ended, and no process can go on or has a deadline
abbrev pub IsStuck : Contents → List Text → Type 0
IsStuck files words = CallComesTo files words Stuck

-- process 1 hasn't ended when the budget is spent
abbrev pub IsSpent : Contents → List Text → Type 0
IsSpent files words = CallComesTo files words Spent
