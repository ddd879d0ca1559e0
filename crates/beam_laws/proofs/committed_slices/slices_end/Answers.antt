use Rattle.beam_laws.proofs.SpotEnds.{ends_at_limit, ends_after_row, ends_before_node_row, ends_at_spot}
use Rattle.beam_laws.proofs.committed_slices.slices_end.Goals as goal

pub returns-clause-limit : goal.returns-clause-limit
returns-clause-limit c = ends_at_limit

pub returns-clause-row : goal.returns-clause-row
returns-clause-row c = ends_after_row

pub returns-clause-node_row : goal.returns-clause-node_row
returns-clause-node_row c = ends_before_node_row

pub returns-clause-at_spot : goal.returns-clause-at_spot
returns-clause-at_spot c = ends_at_spot
