use Rattle.std.proofs.Common.{◌≡◌, length}
use Rattle.beam_model.specs.Prelude.{after_blanks}
use Rattle.beam_erltext.proofs.token.skip_blanks.Given as goal

abbrev pub invariant-loop-first : goal.invariant-loop-first
invariant-loop-first l = after_blanks l.rest ≡ after_blanks l.text

abbrev pub decreases-loop-first : goal.decreases-loop-first
decreases-loop-first l = length l.rest
