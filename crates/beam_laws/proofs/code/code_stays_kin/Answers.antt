use Rattle.beam_laws.proofs.PreservedByAnswers.{answered_kin}
use Rattle.beam_laws.proofs.Kinship.{own_kin, stays_kin, stay_kin, is_same, same_itself}
use Rattle.beam_laws.proofs.code.code_stays_kin.Goals as goal

pub returns-clause-start : goal.returns-clause-start
returns-clause-start c = own_kin

pub returns-clause-event : goal.returns-clause-event
returns-clause-event c = stays_kin

pub returns-clause-events : goal.returns-clause-events
returns-clause-events c = stay_kin

pub returns-clause-same : goal.returns-clause-same
returns-clause-same c = is_same

pub returns-clause-itself : goal.returns-clause-itself
returns-clause-itself c = same_itself

pub returns-clause-answered : goal.returns-clause-answered
returns-clause-answered c = answered_kin
