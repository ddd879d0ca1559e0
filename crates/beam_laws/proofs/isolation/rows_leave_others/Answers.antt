use Rattle.beam_laws.proofs.Slices.{node_stays, others_stay_whole}
use Rattle.beam_laws.proofs.Sending.{others_stay}
use Rattle.beam_laws.proofs.isolation.rows_leave_others.Goals as goal

pub returns-clause-node : goal.returns-clause-node
returns-clause-node c = node_stays

pub returns-clause-others : goal.returns-clause-others
returns-clause-others c = others_stay

pub returns-clause-private : goal.returns-clause-private
returns-clause-private c = others_stay_whole
