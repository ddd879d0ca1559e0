use Rattle.std.proofs.Common.{◌≡◌, rules}
use Rattle.beam_core.specs.Installing.{notices_at}
use Rattle.beam_core.proofs.Telling.{all_posted, taken_back}
use Rattle.beam_core.proofs.install.tell.Goals as goal

pub returns-in-Ok-clause-ok : goal.returns-in-Ok-clause-ok
returns-in-Ok-clause-ok c =
    let same : c.deref.result.now ≡ notices_at c.args.pid c.args.then.now c.args.state.now.processes = search rules in
    all_posted c.args.state.now c.post_all.new.self c.post_all-2.new.self c.args.sent.now
    (notices_at c.args.pid c.args.then.now c.args.state.now.processes) c.deref.result.now c.in_ok-post_all.ensures.ok same c.in-Ok.ensures.ok

pub returns-clause-err : goal.returns-clause-err
returns-clause-err c =
    taken_back c.args.state.now c.post_all.new.self c.post_all-2.new.self c.take_all_back.new.self c.args.sent.now
    c.in_ok-post_all.ensures.ok c.in-Err.ensures.err c.take_all_back.ensures
