use Rattle.std.proofs.Common.{◌≡◌, ℕ, ◌≤◌, length, get_or, drop, ◌++◌, ◌∷◌, []}
use Rattle.std.specs.Ordering.{nat_cmp}
use Rattle.std.specs.BTreeMap.{get}
use Rattle.beam_code.specs.Prelude.{byte_after}
use Rattle.beam_code.proofs.labels.noted.Given as goal

abbrev pub invariant-loop-at : goal.invariant-loop-at
invariant-loop-at l = record {
  within : l.at ≤ length l.instructions;
  after : l.after ≡ get_or l.starts l.at l.end;
  noted : (label : ℕ) → get nat_cmp l.bytes label ≡ byte_after label (drop l.at l.instructions) (drop 1 (drop l.at l.starts) ++ l.end ∷ []);
}

abbrev pub decreases-loop-at : goal.decreases-loop-at
decreases-loop-at l = l.at
