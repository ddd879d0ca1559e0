use Rattle.std.proofs.Common.{length, ◌≡◌}
use Rattle.beam_model.specs.Prelude.{operands_bytes}
use Rattle.beam_code.specs.Prelude.{with_before}
use Rattle.beam_code.proofs.write.push_operands.Given as goal

-- the output so far, and the bytes of the rest after it, are the whole
abbrev pub invariant-loop-operand : goal.invariant-loop-operand
invariant-loop-operand l = with_before l.out.items (operands_bytes l.numbering l.rest) ≡ with_before l.fn.out.items (operands_bytes l.numbering l.operands)

abbrev pub decreases-loop-operand : goal.decreases-loop-operand
decreases-loop-operand l = length l.rest
