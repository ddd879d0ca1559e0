-- The next action of a worker that finds nothing in the queues. (This node's own.)
use Rattle.std.specs.Prelude.{ℕ, Bool, if◌then◌else◌, ◌&&◌, Option, is_none}
use Rattle.beam_sched.specs.declared.worker_action.WorkerAction.{WorkerAction}
use Rattle.beam_sched.specs.declared.worker_action.WorkerAction.TheVariants.{Scan, Rest, End}

-- a worker that is stopped ends; otherwise it scans where a scan is wanted, and ends once the queues are closed and no scan is to be
-- retried
abbrev pub idle_action : Bool → Bool → Bool → Option ℕ → WorkerAction
idle_action is_stopped is_closed is_wanted retry =
    if is_stopped then End
    else if is_wanted then Scan
    else if is_closed && is_none retry then End
    else Rest
