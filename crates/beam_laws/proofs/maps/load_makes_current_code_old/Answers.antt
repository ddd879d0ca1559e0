use Rattle.beam_laws.proofs.Mapping.{load_old, load_others}
use Rattle.beam_laws.proofs.maps.load_makes_current_code_old.Goals as goal

pub returns-clause-old : goal.returns-clause-old
returns-clause-old c = load_old

pub returns-clause-others : goal.returns-clause-others
returns-clause-others c = load_others
