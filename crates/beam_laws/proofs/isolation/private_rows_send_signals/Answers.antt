use Rattle.beam_laws.proofs.Sending.{own_stays_private, others_stay_private}
use Rattle.beam_laws.proofs.isolation.private_rows_send_signals.Goals as goal

pub returns-clause-own : goal.returns-clause-own
returns-clause-own c = own_stays_private

pub returns-clause-others : goal.returns-clause-others
returns-clause-others c = others_stay_private
