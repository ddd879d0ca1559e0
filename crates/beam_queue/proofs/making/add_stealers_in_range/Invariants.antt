use Rattle.std.proofs.Common.{◌≤◌}
use Rattle.beam_queue.specs.Prelude.{AddsStealersInRange}
use Rattle.beam_queue.proofs.making.add_stealers_in_range.Given as goal

-- the stealers so far
abbrev pub invariant-loop-of : goal.invariant-loop-of
invariant-loop-of g l = (l.fn.from ≤ l.of) × AddsStealersInRange l.fn.at l.fn.from l.of l.fn.run_queues.items l.run_queues.items
