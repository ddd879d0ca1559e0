use Rattle.std.proofs.Common.{◌≡◌, ◌+◌, ◌-◌, ◌≤◌}
use Rattle.beam_looks.specs.Counts.{counts_from, counts_of, total}
use Rattle.beam_looks.specs.Rows.{processes_after}
use Rattle.beam_looks.proofs.census.counts_after.Given as goal

-- counting those that are left completes the counts
abbrev pub invariant-loop-pid : goal.invariant-loop-pid
invariant-loop-pid l = record {
  bounds : (l.fn.after ≤ l.pid) × (l.pid ≤ l.end) × (l.end ≡ l.fn.after + l.fn.most);
  total : total l.counts ≡ l.pid - l.fn.after;
  counts : counts_from l.debugger.state l.counts (processes_after l.debugger.state l.pid (l.end - l.pid))
      ≡ counts_of l.debugger.state (processes_after l.debugger.state l.fn.after l.fn.most);
}

abbrev pub decreases-loop-pid : goal.decreases-loop-pid
decreases-loop-pid l = l.end - l.pid
