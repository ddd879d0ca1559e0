use Rattle.beam_laws.proofs.Homes.{next_home}
use Rattle.beam_laws.proofs.home.kept.Goals as goal

pub returns : goal.returns
returns c = next_home
