-- The numbers of refusals.
use Rattle.std.specs.Prelude.{ℕ}
use Rattle.beam_remote.specs.declared.error.LoadError.{LoadError}
use Rattle.beam_remote.specs.declared.error.LoadError.TheVariants as load
use Rattle.beam_remote.specs.declared.error.SessionFailure.{SessionFailure}
use Rattle.beam_remote.specs.declared.error.SessionFailure.TheVariants.{ReadFailed, WriteFailed, CutFrame, BadFrame, NoMemory}

abbrev pub why_number : SessionFailure → ℕ
why_number ReadFailed = 1
why_number WriteFailed = 2
why_number CutFrame = 3
why_number (BadFrame n) = 4
why_number NoMemory = 5

abbrev pub load_number : LoadError → ℕ
load_number load.ReadFailed = 1
load_number load.TooLong = 2
load_number (load.Refused refusal) = 3
load_number load.Busy = 3
load_number load.JournalFull = 3
load_number (load.BadFile layer number) = 3
load_number load.NoMemory = 4
