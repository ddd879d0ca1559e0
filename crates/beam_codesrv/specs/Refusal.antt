-- Why a module isn't loaded, as a number and as a refusal of the node.
use Rattle.std.specs.Prelude.{ℕ}
use Rattle.beam_codesrv.specs.declared.error.CodeError.{CodeError}
use Rattle.beam_codesrv.specs.declared.error.CodeError.TheVariants.{Sticky, NotPurged, Duplicated, NoMemory, TooMany}
use Rattle.beam_machine.specs.declared.event.Refused.{Refused}
use Rattle.beam_machine.specs.declared.event.Refused.TheVariants as refused

abbrev pub number_of : CodeError → ℕ
number_of Sticky = 1
number_of NotPurged = 2
number_of Duplicated = 3
number_of NoMemory = 4
number_of TooMany = 5

abbrev pub refusal_of : CodeError → Refused
refusal_of Sticky = refused.Sticky
refusal_of NotPurged = refused.NotPurged
refusal_of Duplicated = refused.Duplicated
refusal_of NoMemory = refused.NoMemory
refusal_of TooMany = refused.TooMany
