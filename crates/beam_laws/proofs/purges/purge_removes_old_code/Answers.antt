use Rattle.beam_laws.proofs.Purging.{purged_old, purged_current, purged_others}
use Rattle.beam_laws.proofs.purges.purge_removes_old_code.Goals as goal

pub returns-clause-old : goal.returns-clause-old
returns-clause-old c = λ s name. purged_old s.code name

pub returns-clause-current : goal.returns-clause-current
returns-clause-current c = λ s name. purged_current s.code name

pub returns-clause-others : goal.returns-clause-others
returns-clause-others c = λ s name. purged_others s.code name
