use Rattle.std.proofs.Common.{◌≡◌, ◌+◌, ◌-◌, ◌≤◌, ◌++◌}
use Rattle.beam_looks.specs.Modules.{modules_after}
use Rattle.beam_looks.proofs.module_rows.modules_after.Given as goal

-- the rows of those that are left complete the list
abbrev pub invariant-loop-index : goal.invariant-loop-index
invariant-loop-index l = record {
  bounds : (l.fn.after ≤ l.index) × (l.index ≤ l.end) × (l.end ≡ l.fn.after + l.fn.most);
  rows : l.rows.items ++ modules_after l.table l.index (l.end - l.index) ≡ modules_after l.table l.fn.after l.fn.most;
}

abbrev pub decreases-loop-index : goal.decreases-loop-index
decreases-loop-index l = l.end - l.index
