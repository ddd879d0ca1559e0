use Rattle.std.proofs.Common.{length, ◌≡◌}
use Rattle.beam_model.specs.Prelude.{instructions_bytes}
use Rattle.beam_code.specs.Prelude.{with_before}
use Rattle.beam_code.proofs.write.push_instructions.Given as goal

-- the output so far, and the bytes of the rest after it, are the whole
abbrev pub invariant-loop-instruction : goal.invariant-loop-instruction
invariant-loop-instruction l = with_before l.out.items (instructions_bytes l.numbering l.rest) ≡ with_before l.fn.out.items (instructions_bytes l.numbering l.instructions)

abbrev pub decreases-loop-instruction : goal.decreases-loop-instruction
decreases-loop-instruction l = length l.rest
