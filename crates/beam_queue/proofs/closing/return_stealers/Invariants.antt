use Rattle.beam_queue.specs.Prelude.{stealer_count, KeepsCounts, total}
use Rattle.beam_queue.proofs.closing.return_stealers.Given as goal

abbrev pub invariant-loop-stealer : goal.invariant-loop-stealer
invariant-loop-stealer g l = KeepsCounts l.fn.run_queues.items l.run_queues.items

abbrev pub decreases-loop-stealer : goal.decreases-loop-stealer
decreases-loop-stealer g l = total stealer_count l.run_queues.items
