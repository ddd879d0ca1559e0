use Rattle.std.proofs.Common.{◌≡◌}
use Rattle.beam_queue.proofs.run_queue.steal_from_any.Given as goal

-- no pid was taken so far
abbrev pub invariant-loop : goal.invariant-loop
invariant-loop g l = l.stealers.items ≡ l.fn.stealers.items
