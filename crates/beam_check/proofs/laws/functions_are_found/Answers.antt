use Rattle.beam_check.proofs.WellFormed.{found_functions, standing_functions}
use Rattle.beam_check.proofs.laws.functions_are_found.Goals as goal

pub returns-clause-found : goal.returns-clause-found
returns-clause-found c = found_functions

pub returns-clause-told : goal.returns-clause-told
returns-clause-told c = standing_functions
