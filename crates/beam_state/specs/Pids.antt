-- The process of this node that a pid names.
use Rattle.std.specs.Prelude.{ℕ, Option}
use Rattle.beam_term.specs.declared.identifier.Pid.{Pid}
use Rattle.beam_machine.specs.Prelude.{own_number}
use Rattle.beam_term.specs.Prelude.{pid_term}

abbrev pub number_in : Pid → Option ℕ
number_in pid = own_number (pid_term pid.node pid.id pid.serial pid.creation)
