use Rattle.std.proofs.Common.{◌≡◌, length}
use Rattle.beam_model.specs.Prelude.{put_all}
use Rattle.beam_shapes.specs.Prelude.{shown, IsShape, Grows}
use Rattle.beam_shapes.proofs.shape.Shape.put_all.Given as goal

-- the shape so far, with the remaining registers written, is the result
abbrev pub invariant-loop-number : goal.invariant-loop-number
invariant-loop-number l = record {
  grows : Grows l.fn.trees l.trees;
  shape : IsShape l.trees l.shape;
  put : put_all l.tag l.rest (shown l.trees l.shape) ≡ put_all l.tag l.fn.numbers (shown l.fn.trees l.fn.self);
}

abbrev pub decreases-loop-number : goal.decreases-loop-number
decreases-loop-number l = length l.rest
