use Rattle.std.proofs.Common.{◌≡◌, fold, length}
use Rattle.beam_proc.specs.Prelude.{left_by}
use Rattle.beam_proc.proofs.delivering.forget.Given as goal

abbrev pub invariant-loop-signal : goal.invariant-loop-signal
invariant-loop-signal l = fold left_by l.monitors l.rest ≡ fold left_by l.fn.monitors l.fn.signals

abbrev pub decreases-loop-signal : goal.decreases-loop-signal
decreases-loop-signal l = length l.rest
