use Rattle.std.proofs.Common.{◌≡◌, ◌++◌}
use Rattle.std.specs.Option.{option_map}
use Rattle.beam_model.specs.Prelude.{elements_in}
use Rattle.beam_bif.proofs.list.elements_in.Given as goal

-- the elements so far, and then the elements of the rest, are the list's
abbrev pub invariant-loop-head : goal.invariant-loop-head
invariant-loop-head l = option_map (λ items. l.items.items ++ items) (elements_in l.rest) ≡ elements_in l.list
