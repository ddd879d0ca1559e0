use Rattle.std.proofs.Common.{◌≡◌, length}
use Rattle.beam_model.specs.Prelude.{after_leading_lines}
use Rattle.beam_print.proofs.listing_text.after_leading_lines.Given as goal

-- no instruction but lines was passed
abbrev pub invariant-loop-first : goal.invariant-loop-first
invariant-loop-first l = after_leading_lines l.rest ≡ after_leading_lines l.instructions

abbrev pub decreases-loop-first : goal.decreases-loop-first
decreases-loop-first l = length l.rest
