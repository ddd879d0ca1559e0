-- Why an event isn't entered in the journal, as a number.
use Rattle.std.specs.Prelude.{ℕ}
use Rattle.beam_journal.specs.declared.error.JournalError.{JournalError}
use Rattle.beam_journal.specs.declared.error.JournalError.TheVariants.{NoMemory, JournalFull}

abbrev pub number_of : JournalError → ℕ
number_of NoMemory = 1
number_of JournalFull = 2
