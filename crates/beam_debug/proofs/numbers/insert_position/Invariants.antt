use Rattle.std.proofs.Common.{◌≡◌, ◌+◌, length}
use Rattle.beam_debug.specs.Prelude.{insert_position}
use Rattle.beam_debug.proofs.numbers.insert_position.Given as goal

abbrev pub invariant-loop-first : goal.invariant-loop-first
invariant-loop-first l = record {
  found : insert_position l.pid l.at l.rest ≡ insert_position l.pid 0 l.fn.pids;
  count : l.at + length l.rest ≡ length l.fn.pids;
}

abbrev pub decreases-loop-first : goal.decreases-loop-first
decreases-loop-first l = length l.rest
