use Rattle.std.proofs.Common.{◌≡◌, ◌≤◌, ◌-◌}
use Rattle.beam_machine.specs.declared.process.Status.TheVariants.{Running}
use Rattle.beam_rows.specs.Prelude.{LeadsTo}
use Rattle.beam_rows.proofs.short.cheap_rows.Given as goal

abbrev pub invariant-loop-limit : goal.invariant-loop-limit
invariant-loop-limit l = record {
  code : l.fetcher ≡ l.fn.fetcher;
  runs : l.process.status ≡ Running;
  rows : LeadsTo l.fn.fetcher l.count l.fn.process l.process;
  most : l.count ≤ l.limit;
}

abbrev pub decreases-loop-limit : goal.decreases-loop-limit
decreases-loop-limit l = l.limit - l.count
