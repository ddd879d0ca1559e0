use Rattle.std.proofs.Common.{length, ◌≡◌, ◌++◌, option_map}
use Rattle.beam_model.specs.Prelude.{compact_arguments}
use Rattle.beam_code.proofs.compact.compact_arguments.Given as goal

abbrev pub invariant-loop-argument : goal.invariant-loop-argument
invariant-loop-argument l = option_map (λ xs. l.members.items ++ xs) (compact_arguments l.numbering l.rest) ≡ compact_arguments l.numbering l.arguments

abbrev pub decreases-loop-argument : goal.decreases-loop-argument
decreases-loop-argument l = length l.rest
