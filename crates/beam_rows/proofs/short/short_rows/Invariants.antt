use Rattle.std.proofs.Common.{◌≡◌, ◌≤◌, ◌-◌}
use Rattle.beam_machine.specs.declared.process.Status.TheVariants.{Running}
use Rattle.beam_rows.specs.Prelude.{LeadsTo}
use Rattle.beam_rows.proofs.short.short_rows.Given as goal

abbrev pub invariant-loop-count : goal.invariant-loop-count
invariant-loop-count l = record {
  code : l.fetcher ≡ l.code;
  runs : l.process.status ≡ Running;
  rows : LeadsTo l.code l.count l.fn.process l.process;
  most : l.count ≤ l.limit;
}

abbrev pub decreases-loop-count : goal.decreases-loop-count
decreases-loop-count l = l.limit - l.count
