use Rattle.std.proofs.Common.{◌≡◌, ◌≤◌, ◌^◌}
use Rattle.beam_code.specs.Prelude.{ascending_from}
use Rattle.beam_code.proofs.Ascending.{with_before, left_at, ends_of}
use Rattle.beam_code.proofs.labels.ascending.Given as goal

abbrev pub invariant-loop-at : goal.invariant-loop-at
invariant-loop-at l = record {
  fits : l.least ≤ 2 ^ 32;
  listed : with_before l.labels.items (left_at l.least l.instructions l.starts l.end l.at) ≡ ascending_from 0 l.instructions (ends_of l.starts l.end);
}
