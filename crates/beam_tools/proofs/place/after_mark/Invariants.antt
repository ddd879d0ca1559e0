use Rattle.std.proofs.Common.{◌≡◌, length}
use Rattle.beam_tools.specs.Prelude.{after_mark}
use Rattle.beam_tools.proofs.place.after_mark.Given as goal

-- no mark was passed
abbrev pub invariant-loop-first : goal.invariant-loop-first
invariant-loop-first l = after_mark l.mark l.rest ≡ after_mark l.mark l.text

abbrev pub decreases-loop-first : goal.decreases-loop-first
decreases-loop-first l = length l.rest
