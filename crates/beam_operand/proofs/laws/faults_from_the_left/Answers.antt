use Rattle.beam_operand.proofs.Fronts.{fault_stays}
use Rattle.beam_operand.proofs.SpellingLaws.{cut_spelling}
use Rattle.beam_operand.proofs.laws.faults_from_the_left.Goals as goal

pub returns-clause-stays : goal.returns-clause-stays
returns-clause-stays c = fault_stays

pub returns-clause-cut : goal.returns-clause-cut
returns-clause-cut c = cut_spelling
