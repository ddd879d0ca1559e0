use Rattle.std.proofs.Common.{refl}
use Rattle.beam_check.proofs.WorkedHeads.{two_functions}
use Rattle.beam_check.proofs.laws.worked_functions.Goals as goal

pub returns-clause-none : goal.returns-clause-none
returns-clause-none c = refl

pub returns-clause-two : goal.returns-clause-two
returns-clause-two c = two_functions
