use Rattle.beam_laws.proofs.Events.{clock_run}
use Rattle.beam_laws.proofs.time.clock_never_falls.Goals as goal

pub returns : goal.returns
returns c = clock_run
