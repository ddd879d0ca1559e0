use Rattle.std.proofs.Common.{rules, ◌≡◌, ◌+◌, ◌-◌, ◌<◌, ◌≤◌, ◌++◌, [], ◌∷◌, Some, None, ap, ◌∙◌}
use Rattle.beam_machine.specs.Prelude.{process_of}
use Rattle.beam_looks.specs.Rows.{row_of, rows_after}
use Rattle.beam_looks.proofs.After.{goes_over, next_row, no_row, whole}
use Rattle.beam_looks.proofs.process_rows.rows_after.Goals as goal

-- nobody is left where there is no next process
pub returns-in-None : goal.returns-in-None
returns-in-None c =
    let d = c.args.debugger.now.state in
    let end = c.in-Some.end in
    let pid = c.loop-pid.pid in
    let none : None ≡ process_of d.node.processes (pid + 1) = search rules in
    λ bound. whole c.loop-pid.rows.items (rows_after d pid (end - pid)) (rows_after d c.args.after c.args.most) c.loop-pid.invariant.rows (no_row d pid (end - pid) none)

-- the next row is the first of those that are left
pub loop-pid-preserved : goal.loop-pid-preserved
loop-pid-preserved c =
    let d = c.args.debugger.now.state in
    let end = c.in-Some.end in
    let pid = c.loop-pid.pid in
    let p = c.in-Some-process.process.now in
    let some : Some p ≡ process_of d.node.processes (pid + 1) = search rules in
    let before = c.loop-pid.invariant.bounds in
    let less : pid < end = search rules in
    let bounds : (c.args.after ≤ pid + 1) × (pid + 1 ≤ end) × (end ≡ c.args.after + c.args.most) = search rules in
    let pushed : c.push.new.self.items ≡ c.loop-pid.rows.items ++ (row_of d p ∷ []) = search rules in
    record {
      bounds = bounds;
      rows = ap (λ l. l ++ rows_after d (pid + 1) (end - (pid + 1))) pushed
          ∙ goes_over c.loop-pid.rows.items (rows_after d pid (end - pid)) (rows_after d (pid + 1) (end - (pid + 1))) (rows_after d c.args.after c.args.most) (row_of d p)
          c.loop-pid.invariant.rows (next_row d pid end p some less);
    }
