-- How many processes stand in which way. (This node's own.)
use Rattle.std.specs.Prelude.{ℕ, ◌+◌, if◌then◌else◌, List, fold}
use Rattle.beam_machine.specs.Prelude.{Debugged, Process, is_ended}
use Rattle.beam_looks.specs.declared.census.Census.{Census}
use Rattle.beam_page.specs.declared.process.ProcessState.{ProcessState}
use Rattle.beam_page.specs.declared.process.ProcessState.TheVariants.{Running, Waiting, Held, Ended}
use Rattle.beam_looks.specs.Rows.{state_of}

-- how a process stands, also one that has ended
abbrev pub any_state : Debugged → Process → ProcessState
any_state d p = if is_ended p.status then Ended else state_of d p

abbrev pub no_processes : Census
no_processes = record { running = 0; waiting = 0; held = 0; ended = 0 }

abbrev pub one_more : Census → ProcessState → Census
one_more counts Running = record counts { running = counts.running + 1 }
one_more counts Waiting = record counts { waiting = counts.waiting + 1 }
one_more counts Held = record counts { held = counts.held + 1 }
one_more counts Ended = record counts { ended = counts.ended + 1 }

-- the counts after some more processes
abbrev pub counts_from : Debugged → Census → List Process → Census
counts_from d = fold (λ counts p. one_more counts (any_state d p))

-- how many of these processes stand in which way
abbrev pub counts_of : Debugged → List Process → Census
counts_of d = counts_from d no_processes

abbrev pub total : Census → ℕ
total counts = counts.running + counts.waiting + counts.held + counts.ended
