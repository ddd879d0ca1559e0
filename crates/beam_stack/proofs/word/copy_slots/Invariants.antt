use Rattle.std.proofs.Common.{◌≡◌, ◌++◌, [], length}
use Rattle.beam_stack.specs.Prelude.{slots_with}
use Rattle.beam_stack.proofs.word.copy_slots.Given as goal

abbrev pub invariant-loop-word : goal.invariant-loop-word
invariant-loop-word l = l.slots.items ++ slots_with [] l.rest ≡ slots_with [] l.fn.words

abbrev pub decreases-loop-word : goal.decreases-loop-word
decreases-loop-word l = length l.rest
