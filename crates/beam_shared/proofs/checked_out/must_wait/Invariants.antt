use Rattle.std.proofs.Common.{◌≡◌, length, map}
use Rattle.beam_shared.specs.Prelude.{checked_out_of, must_wait}
use Rattle.beam_shared.proofs.checked_out.must_wait.Given as goal

abbrev pub invariant-loop-entry : goal.invariant-loop-entry
invariant-loop-entry l = must_wait (map checked_out_of l.rest) l.event ≡ must_wait (map checked_out_of l.fn.checked_out) l.event

abbrev pub decreases-loop-entry : goal.decreases-loop-entry
decreases-loop-entry l = length l.rest
