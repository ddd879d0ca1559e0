use Rattle.std.proofs.Common.{refl}
use Rattle.beam_machine.specs.Prelude.{ended, empty, run}
use Rattle.beam_laws.proofs.Ending.{final}
use Rattle.beam_laws.proofs.Orderly.{none_orderly, run_orderly, stays_over}
use Rattle.beam_laws.proofs.ends.end_is_final.Goals as goal

pub returns-clause-any : goal.returns-clause-any
returns-clause-any c = λ s events pid p reason value there. final pid (ended p reason value) refl (λ number. refl) s events there

pub returns-clause-reached : goal.returns-clause-reached
returns-clause-reached c = λ events more pid p there over. stays_over (run empty events).state more pid p (run_orderly empty events none_orderly) there over
