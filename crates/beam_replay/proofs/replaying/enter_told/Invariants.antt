use Rattle.beam_recall.specs.Recalling.{AreNumbered}
use Rattle.beam_replay.proofs.replaying.enter_told.Given as goal

abbrev pub invariant-loop : goal.invariant-loop
invariant-loop g l = AreNumbered l.node.seats l.seats.items
