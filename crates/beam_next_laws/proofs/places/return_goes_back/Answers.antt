use Rattle.beam_next_laws.proofs.Entering.{goes_back, goes_nowhere, native_goes_back}
use Rattle.beam_next_laws.proofs.places.return_goes_back.Goals as goal

pub returns-clause-back : goal.returns-clause-back
returns-clause-back c = goes_back

pub returns-clause-ends : goal.returns-clause-ends
returns-clause-ends c = goes_nowhere

pub returns-clause-native : goal.returns-clause-native
returns-clause-native c = native_goes_back
