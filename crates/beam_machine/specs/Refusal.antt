-- The refusals of events by number. (This node's own.)
use Rattle.std.specs.Prelude.{ℕ}
use Rattle.beam_machine.specs.declared.event.Refused.{Refused}
use Rattle.beam_machine.specs.declared.event.Refused.TheVariants.{NoMemory, NoProcess, BackwardClock, NotReady, Stopped, Sticky, NotPurged, Duplicated, BadSpot, TooMany}

abbrev pub number_of_refusal : Refused → ℕ
number_of_refusal NoMemory = 1
number_of_refusal NoProcess = 2
number_of_refusal BackwardClock = 3
number_of_refusal NotReady = 4
number_of_refusal Stopped = 5
number_of_refusal Sticky = 7
number_of_refusal NotPurged = 8
number_of_refusal Duplicated = 9
number_of_refusal BadSpot = 11
number_of_refusal TooMany = 13
