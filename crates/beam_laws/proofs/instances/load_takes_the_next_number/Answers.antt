use Rattle.beam_laws.proofs.Numbering.{load_takes, strict_takes}
use Rattle.beam_laws.proofs.instances.load_takes_the_next_number.Goals as goal

pub returns-clause-load : goal.returns-clause-load
returns-clause-load c = load_takes

pub returns-clause-strict : goal.returns-clause-strict
returns-clause-strict c = strict_takes
