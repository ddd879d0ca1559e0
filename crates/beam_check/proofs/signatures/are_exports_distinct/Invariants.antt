use Rattle.std.proofs.Common.{◌≡◌, [], map, length}
use Rattle.beam_model.specs.Prelude.{are_signatures_new, exported_signature}
use Rattle.beam_check.proofs.signatures.are_exports_distinct.Given as goal

abbrev pub invariant-loop-export : goal.invariant-loop-export
invariant-loop-export l =
    are_signatures_new l.signatures.keys (map exported_signature l.rest) ≡ are_signatures_new [] (map exported_signature l.fn.exports)

abbrev pub decreases-loop-export : goal.decreases-loop-export
decreases-loop-export l = length l.rest
