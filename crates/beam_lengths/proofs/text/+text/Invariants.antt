use Rattle.std.proofs.Common.{◌≡◌, ◌≤◌, ◌+◌, ◌*◌, ◌++◌, [], drop, length}
use Rattle.beam_model.specs.Prelude.{text_of, tail_text, items_text}
use Rattle.beam_term.specs.Prelude.{terms_of, pair_term, depth_of, items_depth}
use Rattle.beam_lengths.proofs.text.+text.Given as goal

-- what is left, with the whole tuple, is what there was, with the remaining elements
abbrev pub invariant-after_items-loop-item : goal.invariant-after_items-loop-item
invariant-after_items-loop-item l =
    l.left + length (items_text [] (terms_of l.items)) ≡ l.initial.left + length (items_text l.separator (terms_of (drop l.item-index l.items)))

-- what is left, with the whole list, is what there was, with the rest of the list
abbrev pub invariant-after_elements-loop-next : goal.invariant-after_elements-loop-next
invariant-after_elements-loop-next l =
    (l.left + length (text_of l.fn.head ++ tail_text l.fn.tail) ≡ l.fn.limit + length (tail_text l.rest)) × (depth_of l.rest ≤ depth_of l.fn.tail)

abbrev pub decreases-after_term : goal.decreases-after_term
decreases-after_term l = 3 * depth_of l.term.now + 2

abbrev pub decreases-after_elements : goal.decreases-after_elements
decreases-after_elements l = 3 * depth_of (pair_term l.head.now l.tail.now)

abbrev pub decreases-after_items : goal.decreases-after_items
decreases-after_items l = 3 * items_depth (terms_of l.items.now) + 3
