use Rattle.std.proofs.Common.{◌≡◌, ◌≤◌, ◌+◌, ◌*◌, ◌++◌, [], drop}
use Rattle.beam_model.specs.Prelude.{text_of, tail_text, items_text}
use Rattle.beam_term.specs.Prelude.{terms_of, pair_term, depth_of, items_depth}
use Rattle.beam_erltext.proofs.print.+print.Given as goal

-- the output so far, with the remaining elements printed, is the whole tuple
abbrev pub invariant-print_items-loop-item : goal.invariant-print_items-loop-item
invariant-print_items-loop-item l = l.out.items ++ items_text l.separator (terms_of (drop l.item-index l.items)) ≡ l.initial.out.items ++ items_text [] (terms_of l.items)

-- the output so far, with the rest of the list printed, is the whole list
abbrev pub invariant-print_elements-loop-next : goal.invariant-print_elements-loop-next
invariant-print_elements-loop-next l =
    (l.out.items ++ tail_text l.rest ≡ l.fn.out.items ++ (text_of l.fn.head ++ tail_text l.fn.tail)) × (depth_of l.rest ≤ depth_of l.fn.tail)

abbrev pub decreases-print_term : goal.decreases-print_term
decreases-print_term l = 3 * depth_of l.term.now + 2

abbrev pub decreases-print_elements : goal.decreases-print_elements
decreases-print_elements l = 3 * depth_of (pair_term l.head.now l.tail.now)

abbrev pub decreases-print_items : goal.decreases-print_items
decreases-print_items l = 3 * items_depth (terms_of l.items.now) + 3
