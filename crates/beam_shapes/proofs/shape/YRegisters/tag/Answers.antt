use Rattle.beam_shapes.proofs.Registers.{tag_is}
use Rattle.beam_shapes.proofs.shape.YRegisters.tag.Goals as goal

pub returns : goal.returns
returns c = tag_is c.args.trees.now c.args.self c.args.number c.tag_at.result c.requires c.tag_at.ensures
