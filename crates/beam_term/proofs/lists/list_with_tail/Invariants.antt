use Rattle.std.proofs.Common.{◌≡◌, length}
use Rattle.beam_term.specs.Prelude.{list_before}
use Rattle.beam_term.proofs.lists.list_with_tail.Given as goal

-- the remaining elements before the list so far are the whole list
abbrev pub invariant-loop-item : goal.invariant-loop-item
invariant-loop-item l = list_before l.items.items l.list ≡ list_before l.fn.items.items l.fn.tail

abbrev pub decreases-loop-item : goal.decreases-loop-item
decreases-loop-item l = length l.items.items
