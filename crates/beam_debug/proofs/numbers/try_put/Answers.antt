use Rattle.std.proofs.Common.{◌≡◌, ℕ, ap, ◌∙◌, rules, Option, Some, None}
use Rattle.beam_debug.specs.Prelude.{insert_position}
use Rattle.beam_debug.proofs.Insertions.{opened, pid_put}
use Rattle.beam_debug.proofs.numbers.try_put.Goals as goal

pub returns-in_ok-insert-in-Some-clause-ok : goal.returns-in_ok-insert-in-Some-clause-ok
returns-in_ok-insert-in-Some-clause-ok c =
    let pids = c.args.pids.now.items in
    let items : c.insert.new.self.items ≡ opened (Some c.in-Some.at) c.args.pid pids = search rules in
    let found : Some c.in-Some.at ≡ insert_position c.args.pid 0 pids = search rules in
    items ∙ (ap (λ (o : Option ℕ). opened o c.args.pid pids) found ∙ pid_put c.args.pid pids)

pub returns-in-None-clause-ok : goal.returns-in-None-clause-ok
returns-in-None-clause-ok c =
    let pids = c.args.pids.now.items in
    let found : None ≡ insert_position c.args.pid 0 pids = search rules in
    ap (λ (o : Option ℕ). opened o c.args.pid pids) found ∙ pid_put c.args.pid pids
