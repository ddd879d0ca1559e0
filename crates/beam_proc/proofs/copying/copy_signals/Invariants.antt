use Rattle.std.proofs.Common.{◌≡◌, ◌++◌, drop}
use Rattle.beam_proc.proofs.copying.copy_signals.Given as goal

abbrev pub invariant-loop-signal : goal.invariant-loop-signal
invariant-loop-signal l = l.copies.items ++ drop l.signal-index l.signals ≡ l.signals
