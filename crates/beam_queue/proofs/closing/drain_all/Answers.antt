use Rattle.beam_queue.proofs.Draining.{last_has_no_stealers, rest_have_no_stealers, one_drained}
use Rattle.beam_queue.proofs.closing.drain_all.Goals as goal

pub drain-requires : goal.drain-requires
drain-requires g c = record { no_stealers = last_has_no_stealers _ _ _ c.in-Some.ensures.items c.loop-run_queue.invariant.0 }

pub loop-run_queue-preserved : goal.loop-run_queue-preserved
loop-run_queue-preserved g c = (
  rest_have_no_stealers _ _ _ c.in-Some.ensures.items c.loop-run_queue.invariant.0,
  λ pid. one_drained pid _ _ _ _ _ _ _ c.in-Some.ensures.items (c.loop-run_queue.invariant.1 pid) (c.in_ok-left.ensures pid),
)
