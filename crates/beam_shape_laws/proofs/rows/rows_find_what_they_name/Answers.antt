use Rattle.beam_shape_laws.proofs.Nodes.{rows_find, rows_find_reached}
use Rattle.beam_shape_laws.proofs.rows.rows_find_what_they_name.Goals as goal

pub returns-clause-reached : goal.returns-clause-reached
returns-clause-reached c = rows_find_reached

pub returns-clause-framed : goal.returns-clause-framed
returns-clause-framed c = rows_find
