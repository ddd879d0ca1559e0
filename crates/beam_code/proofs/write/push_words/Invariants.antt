use Rattle.std.proofs.Common.{length, ◌≡◌}
use Rattle.beam_model.specs.Prelude.{words_bytes}
use Rattle.beam_code.specs.Prelude.{with_before}
use Rattle.beam_code.proofs.write.push_words.Given as goal

-- the output so far, and the bytes of the rest after it, are the whole
abbrev pub invariant-loop-word : goal.invariant-loop-word
invariant-loop-word l = with_before l.out.items (words_bytes l.rest) ≡ with_before l.fn.out.items (words_bytes l.words)

abbrev pub decreases-loop-word : goal.decreases-loop-word
decreases-loop-word l = length l.rest
