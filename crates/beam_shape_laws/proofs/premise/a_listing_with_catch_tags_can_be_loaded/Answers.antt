use Rattle.beam_shape_laws.proofs.Worked.{can_load}
use Rattle.beam_shape_laws.proofs.premise.a_listing_with_catch_tags_can_be_loaded.Goals as goal

pub returns : goal.returns
returns c = can_load
