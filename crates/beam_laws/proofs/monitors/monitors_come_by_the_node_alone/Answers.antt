use Rattle.beam_laws.proofs.Monitoring.{row_part, delivered_part}
use Rattle.beam_laws.proofs.monitors.monitors_come_by_the_node_alone.Goals as goal

pub returns-clause-row : goal.returns-clause-row
returns-clause-row c = row_part

pub returns-clause-arrival : goal.returns-clause-arrival
returns-clause-arrival c = λ p signals. delivered_part signals p
