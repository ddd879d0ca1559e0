use Rattle.std.proofs.Common.{◌≡◌, ◌++◌, true, map}
use Rattle.std.specs.List.{list_any}
use Rattle.beam_machine.specs.Prelude.{monitors_process, downs}
use Rattle.beam_watches.specs.MonitorEntries.{monitors_in}
use Rattle.beam_proc.proofs.process.Process.downs.Given as goal

abbrev pub invariant-loop-reference : goal.invariant-loop-reference
invariant-loop-reference l = record {
  so_far : l.sent.items ++ map (λ signal. record { to = l.fn.self.pid; signal = signal }) (downs l.fn.number l.fn.reason (monitors_in l.reference-iterator))
      ≡ l.fn.sent.items ++ map (λ signal. record { to = l.fn.self.pid; signal = signal }) (downs l.fn.number l.fn.reason l.fn.self.monitors);
  some : list_any (monitors_process l.fn.number) (monitors_in l.reference-iterator) ≡ true → list_any (monitors_process l.fn.number) l.fn.self.monitors ≡ true;
}
