use Rattle.std.proofs.Common.{◌≡◌, [], length}
use Rattle.beam_machine.specs.Prelude.{tag_in}
use Rattle.beam_stack.specs.Prelude.{slots_with}
use Rattle.beam_stack.proofs.word.tag_in.Given as goal

abbrev pub invariant-loop-word : goal.invariant-loop-word
invariant-loop-word l = tag_in (slots_with [] l.rest) ≡ tag_in (slots_with [] l.fn.words)

abbrev pub decreases-loop-word : goal.decreases-loop-word
decreases-loop-word l = length l.rest
