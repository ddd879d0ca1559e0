use Rattle.std.proofs.Common.{◌<◌, length, true≢false, sym, arith}
use Rattle.beam_queue.specs.Prelude.{lent}
use Rattle.beam_queue.proofs.Sums.{none_more, none_there}
use Rattle.beam_queue.proofs.closing.none_lent.Goals as goal

pub returns-then-lent-gt0 : goal.returns-then-lent-gt0
returns-then-lent-gt0 g c =
    let few : c.loop-at.at < length c.args.run_queues.now = omega (arith, c.loop-at-test.true, c.loop-at.auto.at-end) in (
      λ e. absurd (true≢false (sym e)),
      λ none. absurd (none_there lent c.args.run_queues.now c.loop-at.at c.index-run_queues-at.result few c.index-run_queues-at.is (omega (arith, c.lent.ensures, c.if-lent-gt0.true)) none),
    )

pub loop-at-preserved : goal.loop-at-preserved
loop-at-preserved g c =
    let few : c.loop-at.at < length c.args.run_queues.now = omega (arith, c.loop-at-test.true, c.loop-at.auto.at-end) in
    none_more lent c.args.run_queues.now c.loop-at.at c.index-run_queues-at.result few c.index-run_queues-at.is (omega (arith, c.lent.ensures, c.if-lent-gt0.false)) c.loop-at.invariant
