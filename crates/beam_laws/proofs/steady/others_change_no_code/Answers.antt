use Rattle.beam_laws.proofs.Unchanging.{code_stays, spots_stay}
use Rattle.beam_laws.proofs.steady.others_change_no_code.Goals as goal

pub returns-clause-code : goal.returns-clause-code
returns-clause-code c = code_stays

pub returns-clause-spots : goal.returns-clause-spots
returns-clause-spots c = spots_stay
