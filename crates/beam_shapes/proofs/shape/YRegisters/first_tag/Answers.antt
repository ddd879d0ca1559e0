use Rattle.std.proofs.Common.{◌∙◌}
use Rattle.beam_shapes.proofs.Registers.{first_is}
use Rattle.beam_shapes.proofs.shape.YRegisters.first_tag.Goals as goal

pub returns : goal.returns
returns c = c.first.ensures ∙ first_is c.args.trees.now c.args.self c.requires
