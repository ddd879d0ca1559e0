use Rattle.std.proofs.Common.{◌≡◌, length}
use Rattle.beam_shapes.specs.Prelude.{Forces, BeginBelow}
use Rattle.beam_shapes.proofs.search.begin_all_called.Given as goal

-- the functions that the rows so far call begin without y registers
abbrev pub invariant-loop-at : goal.invariant-loop-at
invariant-loop-at l = record {
  places : length l.known.known ≡ length l.fn.known.known;
  forces : Forces (λ a. BeginBelow a l.code l.at) l.fn.known l.known;
}
