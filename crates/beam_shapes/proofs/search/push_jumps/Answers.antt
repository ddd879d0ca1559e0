use Rattle.std.proofs.Common.{◌≡◌, false}
use Rattle.beam_shapes.specs.declared.named.OperandRole.TheVariants as part
use Rattle.beam_shapes.specs.Prelude.{may_name_some}
use Rattle.beam_shapes.proofs.Nothing.{no_jumps_more}
use Rattle.beam_shapes.proofs.search.push_jumps.Goals as goal

pub returns-else-may_name_some : goal.returns-else-may_name_some
returns-else-may_name_some c =
    let none : may_name_some part.Jumps c.args.instruction.now ≡ false = cc in
    no_jumps_more c.args.labels.now.items c.args.instruction.now none
