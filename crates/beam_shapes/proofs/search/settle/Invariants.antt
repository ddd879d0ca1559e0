use Rattle.std.proofs.Common.{◌≡◌, ◌+◌, ◌≤◌, length}
use Rattle.beam_model.specs.Prelude.{Assignment}
use Rattle.beam_shapes.specs.Prelude.{IsBelow, IsAssignment, AreLookedAt, room}
use Rattle.beam_shapes.proofs.search.settle.Given as goal

-- the known shapes stay below each assignment, and each row that doesn't wait was looked at
abbrev pub invariant-loop-at : goal.invariant-loop-at
invariant-loop-at l = record {
  kept : (a : Assignment) → IsBelow l.fn.known.known a → IsAssignment l.code a → IsBelow l.known.known a;
  places : length l.known.known ≡ length l.fn.known.known;
  less : room l.known.known ≤ room l.fn.known.known;
  looked : AreLookedAt l.code l.fn.known → AreLookedAt l.code l.known;
}

abbrev pub decreases-loop-at : goal.decreases-loop-at
decreases-loop-at l = room l.known.known + length l.known.waiting
