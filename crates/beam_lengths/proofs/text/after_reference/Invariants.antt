use Rattle.std.proofs.Common.{◌≡◌, ◌+◌, length, reverse}
use Rattle.std.specs.List.{flat_map}
use Rattle.beam_model.specs.Prelude.{word_text}
use Rattle.beam_lengths.proofs.text.after_reference.Given as goal

-- what is left, with all words, is what there was, with the remaining words
abbrev pub invariant-loop-last : goal.invariant-loop-last
invariant-loop-last l = l.left + length (flat_map word_text (reverse l.words)) ≡ l.initial.left + length (flat_map word_text (reverse l.rest))

abbrev pub decreases-loop-last : goal.decreases-loop-last
decreases-loop-last l = length l.rest
