use Rattle.beam_laws.proofs.Upgraded.{gentle_ends_none}
use Rattle.beam_laws.proofs.upgrades.gentle_upgrade_ends_none.Goals as goal

pub returns : goal.returns
returns c = gentle_ends_none
