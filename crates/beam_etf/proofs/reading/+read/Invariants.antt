use Rattle.std.proofs.Common.{◌≡◌, ◌+◌, ◌-◌, ◌*◌, ◌++◌, List}
use Rattle.beam_model.specs.Prelude.{read_at, items_at}
use Rattle.beam_term.specs.Prelude.{TermValue}
use Rattle.beam_etf.proofs.Loops.{before_rest, before_list}
use Rattle.beam_etf.proofs.reading.+read.Given as goal

abbrev pub decreases-read : goal.decreases-read
decreases-read l = 2 * l.depth_left + 1

abbrev pub decreases-read_tuple : goal.decreases-read_tuple
decreases-read_tuple l = 2 * l.depth_left

abbrev pub decreases-read_list : goal.decreases-read_list
decreases-read_list l = 2 * l.depth_left

-- the terms so far stand on the stack; with those of the rest they are the result
abbrev pub invariant-read_tuple-loop : goal.invariant-read_tuple-loop
invariant-read_tuple-loop l =
    (read : List TermValue) × (l.done.items ≡ l.fn.done.items ++ read)
    × (before_rest read (items_at (read_at (l.fn.depth_left - 1) 0) (l.fn.count - l.counter) l.rest.now) ≡ items_at (read_at (l.fn.depth_left - 1) 0) l.fn.count l.fn.rest.now)

abbrev pub invariant-read_list-loop : goal.invariant-read_list-loop
invariant-read_list-loop l =
    (l.left + l.counter ≡ l.fn.depth_left)
    × (read : List TermValue) × (l.done.items ≡ l.fn.done.items ++ read) × (before_list read (read_at l.left (l.fn.count - l.counter) l.rest.now) ≡ read_at l.fn.depth_left l.fn.count l.fn.rest.now)
