use Rattle.std.proofs.Common.{◌≡◌}
use Rattle.std.specs.List.{list_any}
use Rattle.beam_model.specs.Prelude.{is_entry}
use Rattle.beam_model.specs.declared.function.Function.{Function}
use Rattle.beam_check.proofs.entries.entries.Given as goal

abbrev pub invariant-loop-function : goal.invariant-loop-function
invariant-loop-function l = (q : Function) → list_any (is_entry q) l.entries.keys ≡ list_any (λ f. is_entry f q) l.yielded
