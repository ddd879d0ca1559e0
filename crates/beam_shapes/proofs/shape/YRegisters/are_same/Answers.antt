use Rattle.std.proofs.Common.{ne_eqb}
use Rattle.beam_shapes.proofs.Registers.{same_shown, other_shown}
use Rattle.beam_shapes.proofs.shape.YRegisters.are_same.Goals as goal

pub returns-then-self-others : goal.returns-then-self-others
returns-then-self-others c =
    same_shown c.args.trees.now c.args.self c.args.others c.are_same.result c.requires.one c.requires.other c.if-self-others.true c.are_same.ensures

pub returns-else-self-others : goal.returns-else-self-others
returns-else-self-others c =
    other_shown c.args.trees.now c.args.self c.args.others _ c.requires.one c.requires.other c.if-self-others.false (ne_eqb c.args.self.from c.args.others.from c.if-self-others.false)
