use Rattle.std.proofs.Common.{◌≡◌, ◌++◌, length, map}
use Rattle.std.specs.List.{flat_map}
use Rattle.beam_page.specs.MetricText.{sample_text, told}
use Rattle.beam_page.proofs.metric.put_metric.Given as goal

-- what is left completes the samples
abbrev pub invariant-loop-sample : goal.invariant-loop-sample
invariant-loop-sample l = l.out.items ++ flat_map (sample_text l.text) (map told l.rest) ≡ l.initial.out.items ++ flat_map (sample_text l.text) (map told l.fn.samples)

abbrev pub decreases-loop-sample : goal.decreases-loop-sample
decreases-loop-sample l = length l.rest
