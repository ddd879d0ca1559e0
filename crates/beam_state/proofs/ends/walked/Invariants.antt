use Rattle.std.proofs.Common.{◌≡◌, ◌++◌, take}
use Rattle.beam_state.specs.Prelude.{notices_of}
use Rattle.beam_state.proofs.ends.walked.Given as goal

abbrev pub invariant-loop-index : goal.invariant-loop-index
invariant-loop-index l = l.sent.items ≡ l.fn.sent.items ++ notices_of (take l.index l.processes) l.pid l.reason
