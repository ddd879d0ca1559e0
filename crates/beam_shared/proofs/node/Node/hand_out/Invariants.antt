use Rattle.beam_shared.specs.Prelude.{origin_by}
use Rattle.beam_shared.proofs.node.Node.hand_out.Given as goal

abbrev pub ghosts-hand_out : goal.ghosts-hand_out
ghosts-hand_out g a = record { origin = origin_by a.pid a.work.now a.context.now }
