use Rattle.beam_laws.proofs.Mapping.{comes_and_goes}
use Rattle.beam_laws.proofs.maps.module_leaves_no_trace.Goals as goal

pub returns : goal.returns
returns c = comes_and_goes
