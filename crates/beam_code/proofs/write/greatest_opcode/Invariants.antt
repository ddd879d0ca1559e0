use Rattle.std.proofs.Common.{length, ◌≡◌, fold, max}
use Rattle.beam_model.specs.Prelude.{number_of, greatest_opcode}
use Rattle.beam_code.proofs.write.greatest_opcode.Given as goal

abbrev pub invariant-loop-instruction : goal.invariant-loop-instruction
invariant-loop-instruction l = fold (λ greatest i. max greatest (number_of i.opcode)) l.greatest l.rest ≡ greatest_opcode l.instructions

abbrev pub decreases-loop-instruction : goal.decreases-loop-instruction
decreases-loop-instruction l = length l.rest
