use Rattle.std.proofs.Common.{◌≡◌, ◌++◌, length}
use Rattle.beam_model.specs.Prelude.{uncommented_from, uncommented}
use Rattle.beam_listing.proofs.forms.uncommented.Given as goal

abbrev pub invariant-loop-first : goal.invariant-loop-first
invariant-loop-first l = l.shown.items ++ uncommented_from l.state l.rest ≡ uncommented l.text

abbrev pub decreases-loop-first : goal.decreases-loop-first
decreases-loop-first l = length l.rest
