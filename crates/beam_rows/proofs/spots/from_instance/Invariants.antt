use Rattle.std.proofs.Common.{length}
use Rattle.beam_rows.specs.Prelude.{HasSpotsOf}
use Rattle.beam_rows.proofs.spots.from_instance.Given as goal

abbrev pub invariant-loop-first : goal.invariant-loop-first
invariant-loop-first l = HasSpotsOf l.instance l.rest l.fn.spots

abbrev pub decreases-loop-first : goal.decreases-loop-first
decreases-loop-first l = length l.rest
