use Rattle.std.proofs.Common.{◌≡◌, ◌+◌, ◌-◌, ◌≤◌, ◌++◌, length}
use Rattle.beam_looks.specs.Lingering.{lingering}
use Rattle.beam_looks.specs.Rows.{processes_after}
use Rattle.beam_looks.proofs.lingering.lingering_after.Given as goal

-- those that are left complete the list, and the count
abbrev pub invariant-loop-pid : goal.invariant-loop-pid
invariant-loop-pid l = record {
  bounds : (l.fn.after ≤ l.pid) × (l.pid ≤ l.end) × (l.end ≡ l.fn.after + l.fn.most);
  pids : l.pids.items ++ lingering l.numbers.keys (processes_after l.debugger.state l.pid (l.end - l.pid))
      ≡ lingering l.numbers.keys (processes_after l.debugger.state l.fn.after l.fn.most);
  visited : (l.pid - l.fn.after) + length (processes_after l.debugger.state l.pid (l.end - l.pid))
      ≡ length (processes_after l.debugger.state l.fn.after l.fn.most);
}

abbrev pub decreases-loop-pid : goal.decreases-loop-pid
decreases-loop-pid l = l.end - l.pid
