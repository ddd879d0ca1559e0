-- Why a run of a program fails, its status and its message.
use Rattle.std.specs.Prelude.{◌++◌, ◌||◌, ℕ, Bool, List, [], codes}
use Rattle.std.specs.Str.{bytes_eq}
use Rattle.std.specs.List.{list_any}
use Rattle.clap.specs.Words.{Text}
use Rattle.beam_tools.specs.Names.{newline, why_name}
use Rattle.beam_tools.specs.Program.{name_of, usage_of}
use Rattle.beam_tools.specs.declared.fault.RunFault.{RunFault}
use Rattle.beam_tools.specs.declared.fault.RunFault.TheVariants.{Exit, File, NoMemory, Spent, Stuck, Unwritten, Wrong}
use Rattle.beam_tools.specs.declared.program.Program.{Program}
use Rattle.beam_tools.specs.declared.early_exit.Wrong.{Wrong as WrongLine}
use Rattle.beam_tools.specs.declared.early_exit.Wrong.TheVariants as wrong

-- the status of the program
abbrev pub status_of : RunFault → ℕ
status_of (File f) = 1
status_of NoMemory = 1
status_of Unwritten = 1
status_of (Wrong w) = 2
status_of (Exit e) = 3
status_of Stuck = 4
status_of Spent = 5

-- the parts of a message about a command line: the wrong word, and the texts before and after it
abbrev pub before_word : WrongLine → List ℕ
before_word (wrong.Words text) = []
before_word wrong.NoText = codes "a word is no UTF-8"
before_word wrong.NoCommand = codes "no command"
before_word wrong.NoFile = codes "no file"
before_word (wrong.Same name) = codes "IN and OUT are both "
before_word (wrong.LongModule name) = codes "--module "
before_word (wrong.LongFunction name) = codes "--function "
before_word (wrong.NoList text) = codes "--args "
before_word (wrong.NoLevel text) = codes "--log "
before_word (wrong.NoStart text) = codes "--start "
before_word (wrong.NoSync text) = codes "--sync "
before_word wrong.StopsWithJournal = codes "--stop-when-full and --journal exclude each other"
before_word (wrong.NoMode text) = codes "--socket-mode "
before_word (wrong.LongSocket path) = codes "--socket "
before_word wrong.NoAddress = codes "neither --port nor --socket"
before_word wrong.TokenAlone = codes "--http-token needs --http"
before_word (wrong.NoRange text) = codes "--print "
before_word wrong.PipesAndPrints = codes "--pipe excludes --print and --inspect"

abbrev pub word_of : WrongLine → List ℕ
word_of (wrong.Words text) = text.items
word_of wrong.NoText = []
word_of wrong.NoCommand = []
word_of wrong.NoFile = []
word_of (wrong.Same name) = name.now
word_of (wrong.LongModule name) = name.now
word_of (wrong.LongFunction name) = name.now
word_of (wrong.NoList text) = text.now
word_of (wrong.NoLevel text) = text.now
word_of (wrong.NoStart text) = text.now
word_of (wrong.NoSync text) = text.now
word_of wrong.StopsWithJournal = []
word_of (wrong.NoMode text) = text.now
word_of (wrong.LongSocket path) = path.now
word_of wrong.NoAddress = []
word_of wrong.TokenAlone = []
word_of (wrong.NoRange text) = text.now
word_of wrong.PipesAndPrints = []

abbrev pub after_word : WrongLine → List ℕ
after_word (wrong.LongModule name) = codes " has more than 255 characters"
after_word (wrong.LongFunction name) = codes " has more than 255 characters"
after_word (wrong.NoList text) = codes " is no list of at most 255 terms"
after_word (wrong.NoLevel text) = codes " is none of error, warn and info"
after_word (wrong.NoStart text) = codes " is no M:F"
after_word (wrong.NoSync text) = codes " is none of always, second and no"
after_word (wrong.NoMode text) = codes " is no mode of one to four octal digits up to 777"
after_word (wrong.LongSocket path) = codes " has more than 102 bytes"
after_word (wrong.NoRange text) = codes " is no FROM..TO"
after_word _ = []

-- the message of a fault: `PROGRAM: WHAT`, and the usage after a wrong command line; or how process 1 ended
abbrev pub message_of : Program → RunFault → List ℕ
message_of p (File f) = name_of p ++ codes ": " ++ f.name.now ++ codes ": " ++ why_name f.why ++ newline
message_of p NoMemory = name_of p ++ codes ": NoMemory\n"
message_of p Unwritten = name_of p ++ codes ": output: WriteFailed\n"
message_of p (Wrong w) = name_of p ++ codes ": " ++ before_word w ++ word_of w ++ after_word w ++ newline ++ usage_of p
message_of p (Exit e) = codes "exit: " ++ e.reason.items ++ newline
message_of p Stuck = codes "no process can run\n"
message_of p Spent = codes "budget spent\n"

-- one of the words is this one
abbrev pub has_word : Text → List Text → Bool
has_word word words = list_any (λ w. bytes_eq w word) words

-- the words ask for the place of a fault
abbrev pub is_verbose : List Text → Bool
is_verbose words = has_word (codes "-v") words || has_word (codes "--verbose") words
