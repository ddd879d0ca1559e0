use Rattle.std.proofs.Common.{◌≡◌, ◌≤◌, drop, length}
use Rattle.beam_state.specs.Posting.{all_taken}
use Rattle.beam_state.proofs.posting.take_all_back.Given as goal

abbrev pub invariant-loop-left : goal.invariant-loop-left
invariant-loop-left l = record {
  most : l.left ≤ length l.sent;
  so_far : l.processes ≡ all_taken l.fn.processes (drop l.left l.sent);
}

abbrev pub decreases-loop-left : goal.decreases-loop-left
decreases-loop-left l = l.left
