-- Processes that end by a change of code, and what the others are sent.
use Rattle.std.specs.Prelude.{ℕ, Bool, ◌&&◌, if◌then◌else◌, List, flat_map}
use Rattle.std.specs.List.{list_any}
use Rattle.beam_machine.specs.Prelude.{lingers, lingers_at, Sent, Process, ended, killed, is_monitored}
use Rattle.beam_term.specs.Prelude.{nil_term}
use Rattle.beam_state.specs.declared.lingering.OldInstances.{OldInstances}
use Rattle.beam_state.specs.declared.lingering.OldInstances.TheVariants.{One, Several}
use Rattle.beam_state.specs.Posting.{notices_of}

-- a process lingers in one of the instances of these numbers
abbrev pub lingers_in_any : List ℕ → Process → Bool
lingers_in_any numbers p = list_any (λ n. lingers n p) numbers

-- a process lingers in one of these old instances
abbrev pub lingers_in : OldInstances → Process → Bool
lingers_in (One number) p = lingers_at number p
lingers_in (Several numbers) p = lingers_in_any numbers.now.keys p

-- a process that passes a test is killed
abbrev pub end_if : (Process → Bool) → Process → Process
end_if test p = if test p then ended p killed nil_term else p

-- a process that passes a test is monitored
abbrev pub one_monitored : (Process → Bool) → List Process → Bool
one_monitored test ps = list_any (λ p. test p && is_monitored ps p.pid) ps

-- the signals that others are sent where the processes of these pids are killed: the DOWNs of one end after those of another
abbrev pub notices_of_each : List Process → List ℕ → List Sent
notices_of_each ps pids = flat_map (λ pid. notices_of ps pid killed) pids
