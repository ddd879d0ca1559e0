-- How long workers wait. (This node's own.)
use Rattle.std.specs.Prelude.{ℕ, Bool, true, false, min, Option, Some, None}

-- how many milliseconds a worker waits, if the node is to be scanned after `due`: one that was woken before takes a nap of at most 10
abbrev pub wait_limit : Bool → Option ℕ → Option ℕ
wait_limit true (Some due) = Some (min due 10)
wait_limit true None = Some 10
wait_limit false due = due
