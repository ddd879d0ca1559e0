use Rattle.std.proofs.Common.{◌≡◌, ◌≤◌, ◌+◌, ◌*◌, ◌++◌, drop, true, false}
use Rattle.beam_model.specs.Prelude.{written_part, all_written}
use Rattle.beam_term.specs.Prelude.{terms_of, pair_term, depth_of, items_depth}
use Rattle.beam_etf.proofs.writing.+write.Given as goal

abbrev pub decreases-write : goal.decreases-write
decreases-write l = 3 * depth_of l.term.now + 2

abbrev pub decreases-write_list : goal.decreases-write_list
decreases-write_list l = 3 * depth_of (pair_term l.head.now l.tail.now) + 1

abbrev pub decreases-write_elements : goal.decreases-write_elements
decreases-write_elements l = 3 * depth_of (pair_term l.head.now l.tail.now)

abbrev pub decreases-write_items : goal.decreases-write_items
decreases-write_items l = 3 * items_depth (terms_of l.items.now) + 3

-- the output so far, with the rest of the list written, is the whole
abbrev pub invariant-write_elements-loop-next : goal.invariant-write_elements-loop-next
invariant-write_elements-loop-next l =
    (l.out.items ++ written_part true l.rest ≡ l.fn.out.items ++ (written_part false l.fn.head ++ written_part true l.fn.tail)) × (depth_of l.rest ≤ depth_of l.fn.tail)

abbrev pub invariant-write_items-loop-item : goal.invariant-write_items-loop-item
invariant-write_items-loop-item l =
    l.out.items ++ all_written (terms_of (drop l.item-index l.items)) ≡ l.fn.out.items ++ all_written (terms_of l.fn.items)
