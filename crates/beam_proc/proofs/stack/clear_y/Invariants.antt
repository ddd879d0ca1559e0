use Rattle.std.proofs.Common.{◌≡◌, true, length}
use Rattle.beam_proc.specs.Prelude.{all_there, cleared_y}
use Rattle.beam_proc.proofs.stack.clear_y.Given as goal

abbrev pub invariant-loop-register : goal.invariant-loop-register
invariant-loop-register l = record { done : cleared_y l.rest l.frames ≡ cleared_y l.fn.registers l.fn.frames; there : all_there l.frames l.rest ≡ true }

abbrev pub decreases-loop-register : goal.decreases-loop-register
decreases-loop-register l = length l.rest
