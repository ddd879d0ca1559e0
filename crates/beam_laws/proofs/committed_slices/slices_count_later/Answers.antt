use Rattle.beam_laws.proofs.Committing.{slice_further, slice_counts, slice_rows, slice_at_spot, slice_one, slice_node_row}
use Rattle.beam_laws.proofs.committed_slices.slices_count_later.Goals as goal

pub returns-clause-further : goal.returns-clause-further
returns-clause-further c = slice_further

pub returns-clause-event : goal.returns-clause-event
returns-clause-event c = slice_counts

pub returns-clause-rows : goal.returns-clause-rows
returns-clause-rows c = slice_rows

pub returns-clause-at_spot : goal.returns-clause-at_spot
returns-clause-at_spot c = slice_at_spot

pub returns-clause-one : goal.returns-clause-one
returns-clause-one c = slice_one

pub returns-clause-node_row : goal.returns-clause-node_row
returns-clause-node_row c = slice_node_row
