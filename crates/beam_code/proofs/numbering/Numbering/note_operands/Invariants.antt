use Rattle.std.proofs.Common.{length, ◌≡◌, fold}
use Rattle.beam_model.specs.Prelude.{with_operand}
use Rattle.beam_code.proofs.numbering.Numbering.note_operands.Given as goal

-- the numbering so far, with the rest noted, is the whole one
abbrev pub invariant-loop-operand : goal.invariant-loop-operand
invariant-loop-operand l = fold with_operand l.self l.rest ≡ fold with_operand l.fn.self l.operands

abbrev pub decreases-loop-operand : goal.decreases-loop-operand
decreases-loop-operand l = length l.rest
