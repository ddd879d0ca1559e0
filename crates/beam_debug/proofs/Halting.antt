-- A process that runs, and one row of it.
use Rattle.std.proofs.Common.{◌≡◌, ℕ, zero, cond, refl, sym, ap, ◌∙◌, Option, Some, None, option_map}
use Rattle.beam_machine.specs.declared.event.Then.TheVariants.{GoesOn}
use Rattle.beam_machine.specs.declared.process.Status.{Status}
use Rattle.beam_machine.specs.declared.process.Status.TheVariants.{Running, Waiting, Ended}
use Rattle.beam_machine.specs.Prelude.{Process, is_running, then_of, State, process_of, Rows, row, row_and, running}
use Rattle.beam_machine.specs.Next.{steps}
use Rattle.beam_debug.specs.Prelude.{then_at}

status_runs : (p : Process) (q : Status) → Some (then_of q) ≡ Some GoesOn → cond {A = Option Process} (is_running q) (Some p) None ≡ Some p
status_runs p Running e = refl
status_runs p Waiting e = cc
status_runs p (Ended r v) e = cc

option_runs : (o : Option Process) → option_map (λ p. then_of p.status) o ≡ Some GoesOn → (p : Process) → o ≡ Some p → running o ≡ Some p
option_runs None e p is = cc
option_runs (Some q) e p is = status_runs q q.status e ∙ is

-- a process that goes on runs
pub goes_on_runs : (s : State) (pid : ℕ) (p : Process) → then_at s pid ≡ Some GoesOn → process_of s.processes pid ≡ Some p → running (process_of s.processes pid) ≡ Some p
goes_on_runs s pid p e is = option_runs (process_of s.processes pid) e p is

one_row_is : (s t : State) (pid c : ℕ) (o : Option Process) (p : Process) → o ≡ Some p → row_and (λ t. steps t pid zero) s pid o ≡ record { count = c; state = t } → (c ≡ 1) × (row s pid p ≡ t)
one_row_is s t pid c o p is e =
    let all : record { count = 1; state = row s pid p } ≡ record { count = c; state = t } = sym (ap (λ o. row_and (λ t. steps t pid zero) s pid o) is) ∙ e in
    (sym (ap (λ (r : Rows). r.count) all), ap (λ (r : Rows). r.state) all)

-- a row of a process that runs is one step of the node
pub row_is : (s t : State) (pid c : ℕ) (p : Process) → running (process_of s.processes pid) ≡ Some p → steps s pid 1 ≡ record { count = c; state = t } → (c ≡ 1) × (row s pid p ≡ t)
row_is s t pid c p runs e = one_row_is s t pid c (running (process_of s.processes pid)) p runs e
