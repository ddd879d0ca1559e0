use Rattle.beam_laws.proofs.Purging.{load_ends, strict_ends_none}
use Rattle.beam_laws.proofs.purges.load_purges_first.Goals as goal

pub returns-clause-load : goal.returns-clause-load
returns-clause-load c = load_ends

pub returns-clause-strict : goal.returns-clause-strict
returns-clause-strict c = strict_ends_none
