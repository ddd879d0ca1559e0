use Rattle.std.proofs.Common.{◌≡◌, ◌∷◌, rules}
use Rattle.beam_state.proofs.MonitorKeys.{found_more}
use Rattle.beam_state.proofs.ends.found.Goals as goal

pub loop-key-preserved : goal.loop-key-preserved
loop-key-preserved c =
    let is : c.in-Some.key.now ∷ c.next.new.self ≡ c.loop-key.key-iterator = search rules in
    found_more c.args.processes.now c.args.pid c.in-Some.key.now c.args.reason.now c.loop-key.sent.items c.add_down.new.sent.items _ c.next.new.self c.loop-key.key-iterator is c.in_ok-add_down.ensures.ok c.loop-key.invariant
