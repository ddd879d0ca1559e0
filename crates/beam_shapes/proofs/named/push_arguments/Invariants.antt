use Rattle.std.proofs.Common.{◌≡◌, ◌++◌, length}
use Rattle.std.specs.List.{flat_map}
use Rattle.beam_shapes.specs.Prelude.{numbers_of}
use Rattle.beam_shapes.proofs.named.push_arguments.Given as goal

-- the numbers so far, and then those of the remaining arguments, are the result
abbrev pub invariant-loop-argument : goal.invariant-loop-argument
invariant-loop-argument l = l.found.items ++ flat_map (numbers_of l.role) l.rest ≡ l.fn.found.items ++ flat_map (numbers_of l.role) l.fn.arguments

abbrev pub decreases-loop-argument : goal.decreases-loop-argument
decreases-loop-argument l = length l.rest
