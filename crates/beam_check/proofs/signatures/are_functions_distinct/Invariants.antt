use Rattle.std.proofs.Common.{◌≡◌, [], map, length}
use Rattle.beam_model.specs.Prelude.{are_signatures_new, signature_of}
use Rattle.beam_check.proofs.signatures.are_functions_distinct.Given as goal

abbrev pub invariant-loop-function : goal.invariant-loop-function
invariant-loop-function l =
    are_signatures_new l.signatures.keys (map signature_of l.rest) ≡ are_signatures_new [] (map signature_of l.fn.functions)

abbrev pub decreases-loop-function : goal.decreases-loop-function
decreases-loop-function l = length l.rest
