use Rattle.std.proofs.Common.{◌≡◌, ◌++◌}
use Rattle.beam_watches.proofs.shared_monitors.gather.Given as goal

-- the entries so far, and then the remaining ones, are the result
abbrev pub invariant-loop-reference : goal.invariant-loop-reference
invariant-loop-reference l = l.all.items ++ l.reference-iterator ≡ l.fn.all.items ++ l.fn.entries
