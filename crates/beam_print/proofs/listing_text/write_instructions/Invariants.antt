use Rattle.std.proofs.Common.{◌++◌, length}
use Rattle.beam_model.specs.Prelude.{instructions_text}
use Rattle.beam_print.specs.Begun.{IsWrittenUpTo}
use Rattle.beam_print.proofs.listing_text.write_instructions.Given as goal

-- the text was written up to the waiting text and the remaining instructions
abbrev pub invariant-loop-first : goal.invariant-loop-first
invariant-loop-first g l = IsWrittenUpTo (g.W.Write.contents l.initial.out) (g.W.Write.contents l.out) (l.initial.waiting.items ++ instructions_text l.instructions)
    (l.waiting.items ++ instructions_text l.left)

abbrev pub decreases-loop-first : goal.decreases-loop-first
decreases-loop-first g l = length l.left
