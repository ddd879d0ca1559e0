use Rattle.beam_shapes.proofs.Registers.{value_past}
use Rattle.beam_shapes.proofs.shape.Shape.is_value.Goals as goal

pub returns-else-number-count : goal.returns-else-number-count
returns-else-number-count c =
    value_past c.args.trees.now c.args.self c.in-Sized.registers c.args.number c.count.result c.in-Sized.is c.count.ensures c.if-number-count.false
