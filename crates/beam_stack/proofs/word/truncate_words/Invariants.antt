use Rattle.std.proofs.Common.{◌≡◌, take, length}
use Rattle.beam_stack.proofs.word.truncate_words.Given as goal

abbrev pub invariant-loop-words : goal.invariant-loop-words
invariant-loop-words l = take l.count l.words.items ≡ take l.count l.fn.words.items

abbrev pub decreases-loop-words : goal.decreases-loop-words
decreases-loop-words l = length l.words.items
