use Rattle.std.proofs.Common.{◌≡◌, ◌++◌, drop}
use Rattle.beam_model.specs.Prelude.{operands_text}
use Rattle.beam_print.proofs.operand_text.print_operands.Given as goal

-- the output so far, with the remaining operands printed, is the whole
abbrev pub invariant-loop-operand : goal.invariant-loop-operand
invariant-loop-operand l = l.out.items ++ operands_text l.separator (drop l.operand-index l.operands) ≡ l.initial.out.items ++ operands_text l.before l.operands
