use Rattle.std.proofs.Common.{◌≡◌, [], length}
use Rattle.beam_model.specs.Prelude.{Assignment}
use Rattle.beam_shapes.specs.Prelude.{IsBelow, IsAssignment, AreLookedAt, room}
use Rattle.beam_shapes.proofs.search.find.Given as goal

-- the known shapes stay below each assignment, and each row was looked at
abbrev pub invariant-loop-known : goal.invariant-loop-known
invariant-loop-known l = record {
  kept : (a : Assignment) → IsBelow l.fn.known.known a → IsAssignment l.code a → IsBelow l.known.known a;
  places : length l.known.known ≡ length l.fn.known.known;
  none : l.known.waiting ≡ [];
  looked : AreLookedAt l.code l.known;
}

abbrev pub decreases-loop-known : goal.decreases-loop-known
decreases-loop-known l = room l.known.known
