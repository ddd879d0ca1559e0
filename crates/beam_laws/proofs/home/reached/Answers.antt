use Rattle.beam_machine.specs.Prelude.{empty}
use Rattle.beam_laws.proofs.Homes.{run_home}
use Rattle.beam_laws.proofs.home.reached.Goals as goal

pub returns : goal.returns
returns c = λ events. run_home empty events tt
