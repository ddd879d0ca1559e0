use Rattle.std.proofs.Common.{◌≡◌, false}
use Rattle.beam_shapes.specs.Prelude.{may_name_some}
use Rattle.beam_shapes.proofs.Nothing.{nothing_more}
use Rattle.beam_shapes.proofs.named.push_named.Goals as goal

pub returns-else-may_name_some : goal.returns-else-may_name_some
returns-else-may_name_some c =
    let none : may_name_some c.args.role c.args.instruction.now ≡ false = cc in
    nothing_more c.args.found.now.items c.args.role c.args.instruction.now none
