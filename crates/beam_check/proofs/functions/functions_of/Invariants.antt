use Rattle.std.proofs.Common.{◌≡◌, ◌++◌, length, option_map}
use Rattle.beam_model.specs.Prelude.{functions_of, functions_from}
use Rattle.beam_check.specs.Stage.{shown}
use Rattle.beam_check.proofs.functions.functions_of.Given as goal

abbrev pub invariant-loop-instruction : goal.invariant-loop-instruction
invariant-loop-instruction l =
    option_map (λ fs. l.functions.items ++ fs) (functions_from l.listing.name (shown l.stage) l.rest) ≡ functions_of l.listing

abbrev pub decreases-loop-instruction : goal.decreases-loop-instruction
decreases-loop-instruction l = length l.rest
