use Rattle.beam_laws.proofs.Debugging.{from_undisturbed}
use Rattle.beam_laws.proofs.debugger.spots_and_held_are_live.Goals as goal

pub returns-clause-spots : goal.returns-clause-spots
returns-clause-spots c = λ s events. (from_undisturbed s events).0

pub returns-clause-held : goal.returns-clause-held
returns-clause-held c = λ s events. (from_undisturbed s events).1
