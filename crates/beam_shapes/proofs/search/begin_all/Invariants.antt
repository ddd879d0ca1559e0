use Rattle.std.proofs.Common.{◌≡◌, true, length}
use Rattle.std.specs.List.{list_all}
use Rattle.beam_model.specs.Prelude.{begins_bare, entries}
use Rattle.beam_shapes.specs.Prelude.{ShapeState, Forces, Fails}
use Rattle.beam_shapes.specs.declared.error.FrameCheckError.{FrameCheckError}
use Rattle.beam_shapes.proofs.search.begin_all.Given as goal

-- the result for the remaining functions is the result for all
abbrev pub invariant-loop-instruction : goal.invariant-loop-instruction
invariant-loop-instruction l = record {
  places : length l.known.known ≡ length l.fn.known.known;
  forces : (new : ShapeState) → Forces (λ a. list_all (begins_bare a l.code) (entries l.rest) ≡ true) l.known new
      → Forces (λ a. list_all (begins_bare a l.code) (entries l.code) ≡ true) l.fn.known new;
  fails : (e : FrameCheckError) → Fails e (λ a. list_all (begins_bare a l.code) (entries l.rest) ≡ true) l.known
      → Fails e (λ a. list_all (begins_bare a l.code) (entries l.code) ≡ true) l.fn.known;
}

abbrev pub decreases-loop-instruction : goal.decreases-loop-instruction
decreases-loop-instruction l = length l.rest
