use Rattle.std.proofs.Common.{◌≡◌, Bool, true, ℕ, length}
use Rattle.std.specs.List.{list_all}
use Rattle.beam_model.specs.Prelude.{Assignment, may_have, shape_of_label}
use Rattle.beam_shapes.specs.Prelude.{ShapeState, assigned, Spreads, MayGo, Forces, Fails, shown}
use Rattle.beam_shapes.specs.declared.error.FrameCheckError.{FrameCheckError}
use Rattle.beam_shapes.proofs.search.go_to_all.Given as goal

-- the result for the remaining labels is the result for all
abbrev pub invariant-loop-label : goal.invariant-loop-label
invariant-loop-label l =
    let f : Assignment → ℕ → Bool = λ a label. may_have (shown l.fn.known.parts l.shape) (shape_of_label a l.code label) in record {
      parts : l.known.parts ≡ l.fn.known.parts;
      places : length l.known.known ≡ length l.fn.known.known;
      forces : (new : ShapeState) → Forces (λ a. list_all (f a) l.rest ≡ true) l.known new → Forces (λ a. list_all (f a) l.fn.labels ≡ true) l.fn.known new;
      fails : (e : FrameCheckError) → Fails e (λ a. list_all (f a) l.rest ≡ true) l.known → Fails e (λ a. list_all (f a) l.fn.labels ≡ true) l.fn.known;
      goes : (new : ShapeState) → Spreads l.known new → MayGo (assigned new.known) l.code (shown l.fn.known.parts l.shape) l.rest
          → MayGo (assigned new.known) l.code (shown l.fn.known.parts l.shape) l.fn.labels;
    }

abbrev pub decreases-loop-label : goal.decreases-loop-label
decreases-loop-label l = length l.rest
