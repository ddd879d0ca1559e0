use Rattle.beam_laws.proofs.Spots.{spot_none}
use Rattle.beam_step.proofs.laws.rows_without_spots.Goals as goal

pub returns : goal.returns
returns c = spot_none
