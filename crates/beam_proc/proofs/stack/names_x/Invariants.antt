use Rattle.std.proofs.Common.{◌≡◌, List, length}
use Rattle.beam_term.specs.Prelude.{TermValue}
use Rattle.beam_proc.specs.Prelude.{cleared_x}
use Rattle.beam_proc.proofs.stack.names_x.Given as goal

abbrev pub invariant-loop-register : goal.invariant-loop-register
invariant-loop-register l = (x : List TermValue) → cleared_x l.rest x ≡ cleared_x l.fn.registers x

abbrev pub decreases-loop-register : goal.decreases-loop-register
decreases-loop-register l = length l.rest
