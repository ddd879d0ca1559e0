use Rattle.std.proofs.Common.{◌≡◌, take, map}
use Rattle.std.specs.Arc.{arc_value}
use Rattle.beam_code.specs.Prelude.{made_of}
use Rattle.beam_code.proofs.instruction.sharing.Given as goal

abbrev pub invariant-loop-head : goal.invariant-loop-head
invariant-loop-head l = l.instructions.items ≡ map (made_of (arc_value l.pool).items) (take l.head-index l.heads)
