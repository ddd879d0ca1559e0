use Rattle.beam_shapes.proofs.Registers.{there_is}
use Rattle.beam_shapes.proofs.shape.Shape.is_there.Goals as goal

pub returns-in-Sized : goal.returns-in-Sized
returns-in-Sized c = there_is c.args.trees.now c.args.self c.in-Sized.registers c.args.number c.count.result c.in-Sized.is c.count.ensures
