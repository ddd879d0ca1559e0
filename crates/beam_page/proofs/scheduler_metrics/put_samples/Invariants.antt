use Rattle.std.proofs.Common.{◌≡◌, ◌+◌, ◌++◌, length}
use Rattle.std.specs.List.{flat_map}
use Rattle.beam_page.specs.MetricText.{sample_text}
use Rattle.beam_page.specs.Metrics.{scheduler_samples}
use Rattle.beam_page.proofs.scheduler_metrics.put_samples.Given as goal

-- what is left completes the samples
abbrev pub invariant-loop-scheduler : goal.invariant-loop-scheduler
invariant-loop-scheduler l = record {
  count : l.number + length l.rest ≡ length l.fn.schedulers;
  text : l.out.items ++ flat_map (sample_text l.name) (scheduler_samples l.what (l.number + 1) l.rest)
      ≡ l.initial.out.items ++ flat_map (sample_text l.name) (scheduler_samples l.what 1 l.fn.schedulers);
}

abbrev pub decreases-loop-scheduler : goal.decreases-loop-scheduler
decreases-loop-scheduler l = length l.rest
