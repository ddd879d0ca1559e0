use Rattle.beam_shape_laws.proofs.Nodes.{slice_finds, slice_to_spot_finds}
use Rattle.beam_shape_laws.proofs.rows.slices_find_what_they_name.Goals as goal

pub returns-clause-rows : goal.returns-clause-rows
returns-clause-rows c = slice_finds

pub returns-clause-to_spot : goal.returns-clause-to_spot
returns-clause-to_spot c = slice_to_spot_finds
