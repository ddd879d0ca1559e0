use Rattle.std.proofs.Common.{◌≡◌, length}
use Rattle.beam_model.specs.Prelude.{is_size, are_choices}
use Rattle.beam_shapes.proofs.row.are_sizes.Given as goal

-- the remaining arguments decide
abbrev pub invariant-loop-rest : goal.invariant-loop-rest
invariant-loop-rest l = are_choices is_size l.rest ≡ are_choices is_size l.fn.arguments

abbrev pub decreases-loop-rest : goal.decreases-loop-rest
decreases-loop-rest l = length l.rest
