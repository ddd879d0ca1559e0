use Rattle.std.proofs.Common.{◌≡◌}
use Rattle.beam_state.specs.Ends.{lingers_in, end_if}
use Rattle.beam_state.proofs.Ending.{partly}
use Rattle.beam_state.proofs.lingering.end_all.Given as goal

abbrev pub invariant-loop-index : goal.invariant-loop-index
invariant-loop-index l = l.processes ≡ partly (end_if (lingers_in l.fn.old)) l.index l.fn.processes
