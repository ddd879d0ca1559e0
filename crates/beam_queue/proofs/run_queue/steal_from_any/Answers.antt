use Rattle.std.proofs.Common.{◌<◌, length, arith}
use Rattle.beam_queue.proofs.Stealing.{one_stole_at}
use Rattle.beam_queue.proofs.run_queue.steal_from_any.Goals as goal

pub returns-in-Success : goal.returns-in-Success
returns-in-Success g c =
    let few : c.wrapped-at.result < length c.loop.stealers.items = omega (arith, c.wrapped-at.ensures, c.len.ensures, c.loop.stealers.ok) in
    one_stole_at c.in-Success.pid c.wrapped-at.result c.loop.stealers.items c.args.stealers.now.items c.index_mut.result.now c.steal.new.self few c.index_mut.ensures.value c.in-Success.ensures c.loop.invariant
