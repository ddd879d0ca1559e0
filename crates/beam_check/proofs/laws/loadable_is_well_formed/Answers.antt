use Rattle.beam_check.proofs.WellFormed.{well_formed, loadable}
use Rattle.beam_check.proofs.laws.loadable_is_well_formed.Goals as goal

pub returns : goal.returns
returns c l = (well_formed l, loadable l)
