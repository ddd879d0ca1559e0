use Rattle.std.proofs.Common.{◌≡◌, ◌+◌, ◌-◌, ◌≤◌, ◌++◌}
use Rattle.beam_looks.specs.Rows.{rows_after}
use Rattle.beam_looks.proofs.process_rows.rows_after.Given as goal

-- the rows of those that are left complete the list
abbrev pub invariant-loop-pid : goal.invariant-loop-pid
invariant-loop-pid l = record {
  bounds : (l.fn.after ≤ l.pid) × (l.pid ≤ l.end) × (l.end ≡ l.fn.after + l.fn.most);
  rows : l.rows.items ++ rows_after l.debugger.state l.pid (l.end - l.pid) ≡ rows_after l.debugger.state l.fn.after l.fn.most;
}

abbrev pub decreases-loop-pid : goal.decreases-loop-pid
decreases-loop-pid l = l.end - l.pid
