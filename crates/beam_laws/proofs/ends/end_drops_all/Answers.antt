use Rattle.beam_machine.specs.Prelude.{empty, run}
use Rattle.beam_laws.proofs.Orderly.{none_orderly, run_orderly, ended_is}
use Rattle.beam_laws.proofs.ends.end_drops_all.Goals as goal

pub returns : goal.returns
returns c = λ events pid p reason value there e. ended_is (run empty events).state.processes pid p reason value (run_orderly empty events none_orderly) there e
