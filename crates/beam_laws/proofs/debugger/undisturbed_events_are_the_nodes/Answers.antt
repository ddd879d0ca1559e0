use Rattle.beam_laws.proofs.Debugging.{node_as}
use Rattle.beam_laws.proofs.debugger.undisturbed_events_are_the_nodes.Goals as goal

pub returns : goal.returns
returns c = node_as
