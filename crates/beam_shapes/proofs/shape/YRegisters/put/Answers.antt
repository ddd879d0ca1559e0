use Rattle.std.proofs.Common.{arith}
use Rattle.beam_shapes.proofs.Registers.{put_shown, put_past}
use Rattle.beam_shapes.proofs.shape.YRegisters.put.Goals as goal

pub returns-then-number-count-clause-put : goal.returns-then-number-count-clause-put
returns-then-number-count-clause-put c = put_past c.args.trees.now c.args.self c.args.number c.args.tag (omega arith)

pub returns-clause-put : goal.returns-clause-put
returns-clause-put c =
    put_shown c.args.trees.now c.put.new.self c.args.self c.in_ok-tags.tags c.args.number c.args.tag c.in_ok-tags.ensures.put
