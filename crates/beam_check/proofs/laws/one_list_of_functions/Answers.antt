use Rattle.beam_check.proofs.WellFormed.{same_functions}
use Rattle.beam_check.proofs.laws.one_list_of_functions.Goals as goal

pub returns : goal.returns
returns c = same_functions
