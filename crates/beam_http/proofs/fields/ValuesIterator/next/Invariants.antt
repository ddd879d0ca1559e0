use Rattle.std.proofs.Common.{length, ◌≡◌}
use Rattle.beam_http.specs.Values.{values_left}
use Rattle.beam_http.proofs.fields.ValuesIterator.next.Given as goal

-- no field that was passed over has the name
abbrev pub invariant-loop-span : goal.invariant-loop-span
invariant-loop-span l = values_left l.self ≡ values_left l.fn.self

abbrev pub decreases-loop-span : goal.decreases-loop-span
decreases-loop-span l = length l.self.fields.spans.now
