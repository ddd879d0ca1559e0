use Rattle.std.proofs.Common.{◌≡◌, ◌+◌, length}
use Rattle.beam_debug.specs.Prelude.{spot_insert_position}
use Rattle.beam_debug.proofs.places.insert_position.Given as goal

abbrev pub invariant-loop-first : goal.invariant-loop-first
invariant-loop-first l = record {
  found : spot_insert_position l.place l.at l.rest ≡ spot_insert_position l.place 0 l.fn.spots;
  count : l.at + length l.rest ≡ length l.fn.spots;
}

abbrev pub decreases-loop-first : goal.decreases-loop-first
decreases-loop-first l = length l.rest
