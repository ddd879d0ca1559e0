use Rattle.std.proofs.Common.{◌≤◌, ◌-◌}
use Rattle.beam_step.specs.Slices.{Made}
use Rattle.beam_step.proofs.run.run.Given as goal

abbrev pub invariant-loop-count : goal.invariant-loop-count
invariant-loop-count l = record {
  most : l.count ≤ l.limit;
  made : Made l.spots l.passes l.code l.fn.process l.count l.sent.items l.passing l.process;
}

abbrev pub decreases-loop-count : goal.decreases-loop-count
decreases-loop-count l = l.limit - l.count
