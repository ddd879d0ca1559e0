use Rattle.beam_machine.specs.Prelude.{empty}
use Rattle.beam_laws.proofs.Rising.{next_rises, run_rises, run_count}
use Rattle.beam_laws.proofs.monitors.references_rise.Goals as goal

pub returns-clause-kept : goal.returns-clause-kept
returns-clause-kept c = λ s e h. (next_rises s e).1 h

pub returns-clause-reached : goal.returns-clause-reached
returns-clause-reached c = λ events. run_rises empty events tt

pub returns-clause-count : goal.returns-clause-count
returns-clause-count c = run_count
