use Rattle.std.proofs.Common.{rules, ◌≡◌, ◌+◌, ◌-◌, ◌<◌, ◌≤◌, ◌++◌, [], ◌∷◌, Some, None, ap, sym, ◌∙◌, length, true, false}
use Rattle.std.specs.List.{list_any}
use Rattle.beam_machine.specs.Prelude.{lingers, process_of}
use Rattle.beam_looks.specs.Lingering.{lingering}
use Rattle.beam_looks.specs.Rows.{processes_after}
use Rattle.beam_looks.proofs.After.{goes_over, whole}
use Rattle.beam_looks.proofs.Away.{next_is_away, next_lingers, next_visited, no_more, one_more}
use Rattle.beam_looks.proofs.lingering.lingering_after.Goals as goal
use Rattle.beam_looks.proofs.lingering.lingering_after.Goals.{then-lingers_in_any+in_ok-push-in-Some-process, else-lingers_in_any}

-- nobody is left where there is no next process
pub returns-in-None-clause-pids : goal.returns-in-None-clause-pids
returns-in-None-clause-pids c =
    let d = c.args.debugger.now.state in
    let numbers = c.args.numbers.now.keys in
    let end = c.in-Some.end in
    let pid = c.loop-pid.pid in
    let none : None ≡ process_of d.node.processes (pid + 1) = search rules in
    λ bound. whole c.loop-pid.pids.items (lingering numbers (processes_after d pid (end - pid))) (lingering numbers (processes_after d c.args.after c.args.most))
    c.loop-pid.invariant.pids (no_more d numbers pid (end - pid) none)

-- the next process is the first of those that are left
pub loop-pid-preserved : goal.loop-pid-preserved
loop-pid-preserved c =
    let d = c.args.debugger.now.state in
    let numbers = c.args.numbers.now.keys in
    let end = c.in-Some.end in
    let pid = c.loop-pid.pid in
    let p = c.in-Some-process.process.now in
    let some : Some p ≡ process_of d.node.processes (pid + 1) = search rules in
    let less : pid < end = search rules in
    let bounds : (c.args.after ≤ pid + 1) × (pid + 1 ≤ end) × (end ≡ c.args.after + c.args.most) = search rules in
    let left = lingering numbers (processes_after d pid (end - pid)) in
    let behind = lingering numbers (processes_after d (pid + 1) (end - (pid + 1))) in
    let all = lingering numbers (processes_after d c.args.after c.args.most) in
    let found = elim c.if-lingers_in_any.branch as (λ b. c.if-lingers_in_any.pids.items ++ behind ≡ all) [
      | then-lingers_in_any+in_ok-push-in-Some-process w ↦
          let there : list_any (λ n. lingers n p) numbers ≡ true = search rules in
          let pushed : c.if-lingers_in_any.pids.items ≡ c.loop-pid.pids.items ++ (p.pid ∷ []) = search rules in
          ap (λ l. l ++ behind) pushed ∙ goes_over c.loop-pid.pids.items left behind all p.pid c.loop-pid.invariant.pids (next_lingers d numbers pid end p some less there)
      | else-lingers_in_any w ↦
          let away : list_any (λ n. lingers n p) numbers ≡ false = search rules in
          let same : c.if-lingers_in_any.pids.items ≡ c.loop-pid.pids.items = search rules in
          ap (λ l. l ++ behind) same ∙ ap (λ l. c.loop-pid.pids.items ++ l) (sym (next_is_away d numbers pid end p some less away)) ∙ c.loop-pid.invariant.pids
    ] in
    record {
      bounds = bounds;
      pids = found;
      visited = one_more c.args.after pid (length (processes_after d pid (end - pid))) (length (processes_after d (pid + 1) (end - (pid + 1))))
          (length (processes_after d c.args.after c.args.most)) bounds.0 c.loop-pid.invariant.bounds.0 c.loop-pid.invariant.visited (next_visited d pid end p some less);
    }
