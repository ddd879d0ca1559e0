use Rattle.std.proofs.Common.{◌≡◌, ◌≤◌, ◌-◌, ◌+◌, ◌*◌, ◌++◌, List, length}
use Rattle.beam_model.specs.Prelude.{with_front, term_at, pairs_at, items_by}
use Rattle.beam_term.specs.Prelude.{TermValue, list_before, terms_of, depth_of, items_depth}
use Rattle.beam_erltext.proofs.Pairs.{before_list}
use Rattle.beam_erltext.proofs.read.+read.Given as goal

abbrev pub decreases-read : goal.decreases-read
decreases-read l = 2 * l.depth_left + 1

abbrev pub decreases-read_list : goal.decreases-read_list
decreases-read_list l = 2 * l.depth_left

abbrev pub decreases-read_tuple : goal.decreases-read_tuple
decreases-read_tuple l = 2 * l.depth_left

-- the terms so far stand on the stack; with those of the rest they are the result
abbrev pub invariant-read_list-elements : goal.invariant-read_list-elements
invariant-read_list-elements l =
    (l.left ≤ l.fn.depth_left)
    × (read : List TermValue) × (l.done.items ≡ l.fn.done.items ++ read) × (before_list read (pairs_at l.left l.text.now) ≡ pairs_at l.fn.depth_left l.fn.text.now)
    × ((t : TermValue) → depth_of t ≤ l.left → depth_of (list_before read t) ≤ l.fn.depth_left)

abbrev pub decreases-read_list-elements : goal.decreases-read_list-elements
decreases-read_list-elements l = l.left

abbrev pub invariant-read_tuple-loop : goal.invariant-read_tuple-loop
invariant-read_tuple-loop l =
    (read : List TermValue) × (l.done.items ≡ l.fn.done.items ++ read)
    × (with_front read (items_by (term_at (l.fn.depth_left - 1)) (length l.fn.text.now - l.counter) l.text.now) ≡ items_by (term_at (l.fn.depth_left - 1)) (length l.fn.text.now) l.fn.text.now)
    × (items_depth (terms_of read) ≤ l.fn.depth_left - 1)
