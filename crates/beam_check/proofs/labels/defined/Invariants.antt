use Rattle.std.proofs.Common.{◌≡◌, ℕ, ◌||◌, nat_lt, [], length}
use Rattle.std.specs.List.{list_all}
use Rattle.beam_model.specs.Prelude.{defined_labels, is_among, are_new}
use Rattle.beam_check.specs.LabelSet.{has_label}
use Rattle.beam_check.proofs.LabelTests.{are_unmarked}
use Rattle.beam_check.proofs.labels.defined.Given as goal

abbrev pub invariant-loop-instruction : goal.invariant-loop-instruction
invariant-loop-instruction l = record {
  marked : (n : ℕ) → (has_label l.labels n || is_among n (defined_labels l.rest)) ≡ is_among n (defined_labels l.fn.instructions);
  new : are_unmarked (has_label l.labels) (defined_labels l.rest) ≡ are_new [] (defined_labels l.fn.instructions);
  below : list_all (λ n. nat_lt n l.limit) (defined_labels l.rest) ≡ list_all (λ n. nat_lt n l.limit) (defined_labels l.fn.instructions);
}

abbrev pub decreases-loop-instruction : goal.decreases-loop-instruction
decreases-loop-instruction l = length l.rest
