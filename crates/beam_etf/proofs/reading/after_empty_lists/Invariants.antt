use Rattle.std.proofs.Common.{◌≡◌, length}
use Rattle.beam_model.specs.Prelude.{after_empty_lists}
use Rattle.beam_etf.proofs.reading.after_empty_lists.Given as goal

abbrev pub invariant-loop-rest : goal.invariant-loop-rest
invariant-loop-rest l = after_empty_lists l.rest ≡ after_empty_lists l.bytes

abbrev pub decreases-loop-rest : goal.decreases-loop-rest
decreases-loop-rest l = length l.rest
