use Rattle.beam_machine.specs.Prelude.{empty, run}
use Rattle.beam_laws.proofs.Orderly.{none_orderly, run_orderly, pid_is}
use Rattle.beam_laws.proofs.pids.pids_are_positions.Goals as goal

pub returns : goal.returns
returns c = λ events n p there. pid_is (run empty events).state.processes n p (run_orderly empty events none_orderly) there
