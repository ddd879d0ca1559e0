-- The errors of this crate, and the faults of the definitions.
use Rattle.std.specs.Prelude.{◌≡◌, ◌≢◌, ℕ, Result, Ok, Err}
use Rattle.beam_term.specs.declared.error.TermError.{TermError}
use Rattle.beam_term.specs.declared.error.TermError.TheVariants as terms
use Rattle.beam_model.specs.Prelude.{ExternalFault, bad_tag, out_of_profile, too_deep, bad_utf8}
use Rattle.beam_model.specs.ExternalFault.{truncated, integer_too_large}
use Rattle.beam_etf.specs.declared.error.EtfError.{EtfError}
use Rattle.beam_etf.specs.declared.error.EtfError.TheVariants.{Truncated, BadTag, OutOfProfile, IntegerTooLarge, TooDeep, BadUtf8, NoMemory}

abbrev pub number_of : EtfError → ℕ
number_of Truncated = 1
number_of BadTag = 2
number_of OutOfProfile = 3
number_of IntegerTooLarge = 4
number_of TooDeep = 5
number_of BadUtf8 = 6
number_of NoMemory = 7

abbrev pub from_term_error : TermError → EtfError
from_term_error terms.NoMemory = NoMemory
from_term_error terms.TooDeep = TooDeep

-- the fault that an error names; NoMemory isn't a fault of the bytes, and its value here has no meaning
abbrev pub fault_of : EtfError → ExternalFault
fault_of Truncated = truncated
fault_of BadTag = bad_tag
fault_of OutOfProfile = out_of_profile
fault_of IntegerTooLarge = integer_too_large
fault_of TooDeep = too_deep
fault_of BadUtf8 = bad_utf8
fault_of NoMemory = truncated

-- the view of a function's result is the result of reading, unless memory ran out
abbrev pub Gives : {X Y : Type 0} → (X → Y) → Result X EtfError → Result Y ExternalFault → Type 0
Gives view (Ok x) read = read ≡ Ok (view x)
Gives view (Err e) read = e ≢ NoMemory → read ≡ Err (fault_of e)
