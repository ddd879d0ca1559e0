use Rattle.beam_laws.proofs.StayingOut.{comes_out, stays_out, stay_out}
use Rattle.beam_laws.proofs.PreservedByAnswers.{answered_out}
use Rattle.beam_laws.proofs.handed_out.others_leave_it_out.Goals as goal

pub returns-clause-start : goal.returns-clause-start
returns-clause-start c = comes_out

pub returns-clause-event : goal.returns-clause-event
returns-clause-event c = stays_out

pub returns-clause-events : goal.returns-clause-events
returns-clause-events c = stay_out

pub returns-clause-answered : goal.returns-clause-answered
returns-clause-answered c = answered_out
