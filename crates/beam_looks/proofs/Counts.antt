-- Counts of processes.
use Rattle.std.proofs.Common.{◌≡◌, ℕ, ◌+◌, ◌-◌, ◌<◌, ◌≤◌, ap, arith, Some, None}
use Rattle.beam_machine.specs.Prelude.{Debugged, Process, process_of}
use Rattle.beam_page.specs.declared.process.ProcessState.{ProcessState}
use Rattle.beam_page.specs.declared.process.ProcessState.TheVariants.{Running, Waiting, Held, Ended}
use Rattle.beam_looks.specs.declared.census.Census.{Census}
use Rattle.beam_looks.specs.Counts.{any_state, counts_from, one_more, total}
use Rattle.beam_looks.specs.Rows.{processes_after}
use Rattle.beam_looks.proofs.After.{next_process, no_process, none_behind}

-- each process is counted once
pub one_is : (counts : Census) (state : ProcessState) → total (one_more counts state) ≡ total counts + 1
one_is counts Running = omega arith
one_is counts Waiting = omega arith
one_is counts Held = omega arith
one_is counts Ended = omega arith

-- the next process is counted, and then those above it
pub next_counted : (d : Debugged) (counts : Census) (pid end : ℕ) (p : Process) → Some p ≡ process_of d.node.processes (pid + 1) → pid < end
    → counts_from d counts (processes_after d pid (end - pid))
    ≡ counts_from d (one_more counts (any_state d p)) (processes_after d (pid + 1) (end - (pid + 1)))
next_counted d counts pid end p is less = ap (counts_from d counts) (next_process d pid end p is less)

pub none_counted : (d : Debugged) (counts : Census) (pid n : ℕ) → None ≡ process_of d.node.processes (pid + 1)
    → counts_from d counts (processes_after d pid n) ≡ counts
none_counted d counts pid n is = ap (counts_from d counts) (no_process d pid n is)

pub none_left : (d : Debugged) (counts : Census) (pid end : ℕ) → end ≤ pid → counts_from d counts (processes_after d pid (end - pid)) ≡ counts
none_left d counts pid end over = ap (counts_from d counts) (none_behind d pid end over)
