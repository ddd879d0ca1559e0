use Rattle.std.proofs.Common.{ap}
use Rattle.beam_laws.proofs.Upgraded.{upgrade_run, gentle_run, upgrade_parts}
use Rattle.beam_laws.proofs.upgrades.upgrade_is_its_loads.Goals as goal

pub returns-clause-loads : goal.returns-clause-loads
returns-clause-loads c = upgrade_run

pub returns-clause-code : goal.returns-clause-code
returns-clause-code c = λ s mode ls r e. ap (λ t. t.code) (upgrade_parts s mode ls r e)

pub returns-clause-count : goal.returns-clause-count
returns-clause-count c = λ s mode ls r e. ap (λ t. t.instances) (upgrade_parts s mode ls r e)

pub returns-clause-gentle : goal.returns-clause-gentle
returns-clause-gentle c = gentle_run
