use Rattle.std.proofs.Common.{◌≡◌}
use Rattle.std.specs.List.{list_any}
use Rattle.beam_machine.specs.Prelude.{monitors_process}
use Rattle.beam_watches.specs.MonitorEntries.{monitors_in}
use Rattle.beam_watches.proofs.monitors.Monitors.monitors_process.Given as goal

abbrev pub invariant-loop-reference : goal.invariant-loop-reference
invariant-loop-reference l = list_any (monitors_process l.number) (monitors_in l._reference-iterator) ≡ list_any (monitors_process l.fn.number) l.fn.self
