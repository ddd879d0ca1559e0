use Rattle.beam_next_laws.proofs.Deadlines.{keeps, times_out}
use Rattle.beam_next_laws.proofs.places.timeout_stays_in_the_instance.Goals as goal

pub returns-clause-row : goal.returns-clause-row
returns-clause-row c = keeps

pub returns-clause-timeout : goal.returns-clause-timeout
returns-clause-timeout c = times_out
