use Rattle.std.proofs.Common.{◌≡◌, length}
use Rattle.beam_proc.specs.Prelude.{cleared_x}
use Rattle.beam_proc.proofs.stack.clear_x.Given as goal

abbrev pub invariant-loop-register : goal.invariant-loop-register
invariant-loop-register l = cleared_x l.rest l.x.items ≡ cleared_x l.fn.registers l.fn.x.items

abbrev pub decreases-loop-register : goal.decreases-loop-register
decreases-loop-register l = length l.rest
