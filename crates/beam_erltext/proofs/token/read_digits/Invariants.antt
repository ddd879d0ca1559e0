use Rattle.std.proofs.Common.{◌≡◌, ◌≤◌, ◌^◌, length}
use Rattle.beam_model.specs.Prelude.{digits_after}
use Rattle.beam_erltext.proofs.token.read_digits.Given as goal

abbrev pub invariant-loop-first : goal.invariant-loop-first
invariant-loop-first l = record { reads : digits_after l.value l.rest ≡ digits_after 0 l.text; small : l.value ≤ 2 ^ 59 }

abbrev pub decreases-loop-first : goal.decreases-loop-first
decreases-loop-first l = length l.rest
