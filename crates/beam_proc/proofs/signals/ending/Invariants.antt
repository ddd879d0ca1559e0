use Rattle.std.proofs.Common.{◌≡◌, length}
use Rattle.beam_proc.specs.Prelude.{ending}
use Rattle.beam_proc.proofs.signals.ending.Given as goal

abbrev pub invariant-loop-signal : goal.invariant-loop-signal
invariant-loop-signal l = ending l.pid l.rest ≡ ending l.fn.pid l.fn.signals

abbrev pub decreases-loop-signal : goal.decreases-loop-signal
decreases-loop-signal l = length l.rest
