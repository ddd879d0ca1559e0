use Rattle.beam_machine.specs.Prelude.{empty, run}
use Rattle.beam_laws.proofs.Orderly.{none_orderly, run_orderly, names_are_apart}
use Rattle.beam_laws.proofs.pids.names_are_apart.Goals as goal

pub returns : goal.returns
returns c = λ events m n p q name there this named other. names_are_apart (run empty events).state.processes m n p q name (run_orderly empty events none_orderly) there this named other
