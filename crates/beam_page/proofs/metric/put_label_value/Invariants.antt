use Rattle.std.proofs.Common.{◌≡◌, ◌++◌, length}
use Rattle.std.specs.List.{flat_map}
use Rattle.beam_page.specs.MetricText.{escape_label}
use Rattle.beam_page.proofs.metric.put_label_value.Given as goal

-- what is left completes the value
abbrev pub invariant-loop-byte : goal.invariant-loop-byte
invariant-loop-byte l = l.out.items ++ flat_map escape_label l.rest ≡ l.initial.out.items ++ flat_map escape_label l.fn.value

abbrev pub decreases-loop-byte : goal.decreases-loop-byte
decreases-loop-byte l = length l.rest
