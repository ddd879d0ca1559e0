use Rattle.std.proofs.Common.{◌≡◌, length}
use Rattle.beam_shared.specs.Prelude.{entry_of}
use Rattle.beam_shared.proofs.checked_out.entry_of.Given as goal

abbrev pub invariant-loop-entry : goal.invariant-loop-entry
invariant-loop-entry l = entry_of l.pid l.rest ≡ entry_of l.pid l.fn.checked_out

abbrev pub decreases-loop-entry : goal.decreases-loop-entry
decreases-loop-entry l = length l.rest
