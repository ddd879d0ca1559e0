use Rattle.beam_laws.proofs.Numbering.{count, live_gone}
use Rattle.beam_laws.proofs.instances.numbers_never_return.Goals as goal

pub returns-clause-count : goal.returns-clause-count
returns-clause-count c = count

pub returns-clause-gone : goal.returns-clause-gone
returns-clause-gone c = live_gone
