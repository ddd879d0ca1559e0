use Rattle.std.proofs.Common.{◌<◌, length, arith}
use Rattle.beam_queue.specs.Prelude.{lent_of}
use Rattle.beam_queue.proofs.Sums.{none_more}
use Rattle.beam_queue.proofs.closing.lender.Goals as goal

pub loop-at-preserved : goal.loop-at-preserved
loop-at-preserved g c =
    let few : c.loop-at.at < length c.args.run_queues.now = omega (arith, c.loop-at-test.true, c.loop-at.auto.at-end) in
    none_more (lent_of c.args.number) c.args.run_queues.now c.loop-at.at c.index-run_queues-at.result few c.index-run_queues-at.is (omega (arith, c.lent_by.ensures, c.if-lent_by-gt0.false)) c.loop-at.invariant
