use Rattle.std.proofs.Common.{◌≡◌, ◌++◌, length, reverse}
use Rattle.std.specs.List.{flat_map}
use Rattle.beam_model.specs.Prelude.{word_text}
use Rattle.beam_erltext.proofs.print.print_reference.Given as goal

-- the output so far, with the remaining words printed, is the whole
abbrev pub invariant-loop-last : goal.invariant-loop-last
invariant-loop-last l = l.out.items ++ flat_map word_text (reverse l.left) ≡ l.initial.out.items ++ flat_map word_text (reverse l.words)

abbrev pub decreases-loop-last : goal.decreases-loop-last
decreases-loop-last l = length l.left
