-- Private rows that are done first and count later.
use Rattle.std.proofs.Common.{◌≡◌, ℕ, ◌+◌, true, false, cond, ap, subst, ◌∙◌, Some}
use Rattle.beam_machine.specs.declared.event.Event.TheVariants as event
use Rattle.beam_machine.specs.declared.event.Refused.TheVariants.{NotReady}
use Rattle.beam_machine.specs.declared.event.Reply.TheVariants.{Ran}
use Rattle.beam_machine.specs.Prelude.{Code, Process, is_running, is_ended, then_of, State, process_of, alive, live_process, refused, replied, ran, next_steps, next, Private, private_rows}
use Rattle.beam_machine.specs.Next.{steps}
use Rattle.beam_laws.specs.Prelude.{IsStill, after_private, before, with_name_and_transit_of}
use Rattle.beam_laws.proofs.Ending.{runs_on}
use Rattle.beam_laws.proofs.Numbered.{alive_of}
use Rattle.beam_laws.proofs.Private.{rows_unread}
use Rattle.beam_laws.proofs.Commits.{rows_go_on}
use Rattle.beam_laws.proofs.Slices.{having_status, rows_event, running_waits}

pub rows_later : (code : Code) (n : ℕ) (p q : Process) → IsStill p q → private_rows code n q ≡ with_name_and_transit_of q (private_rows code n p)
rows_later code n p q still = ap (private_rows code n) still ∙ rows_unread code n p q.name q.transit

still_runs : (p q : Process) → IsStill p q → is_running p.status ≡ true → is_running q.status ≡ true
still_runs p q still runs = ap (λ x. is_running x.status) still ∙ (ap is_running (having_status q.name q.transit p) ∙ runs)

over : (s : State) (code : Code) (n : ℕ) (p q : Process) → s.code ≡ code → IsStill p q → private_rows s.code n q ≡ with_name_and_transit_of q (private_rows code n p)
over s code n p q same still = ap (λ code. private_rows code n q) same ∙ rows_later code n p q still

pub further_later : (s : State) (code : Code) (pid n m : ℕ) (p q : Process) → s.code ≡ code → process_of s.processes pid ≡ Some q → IsStill p q → is_ended p.status ≡ false
    → steps s pid ((private_rows code n p).count + m)
    ≡ before (private_rows code n p).count (steps (after_private s pid (with_name_and_transit_of q (private_rows code n p))) pid m)
further_later s code pid n m p q same at still lives =
    subst (λ (rows : Private). steps s pid (rows.count + m) ≡ before rows.count (steps (after_private s pid rows) pid m))
    (over s code n p q same still) (rows_go_on s pid n m q at (ap (λ x. is_ended x.status) still ∙ (ap is_ended (having_status q.name q.transit p) ∙ lives)))

pub event_later : (s : State) (code : Code) (pid n m : ℕ) (p q : Process) → s.code ≡ code → process_of s.processes pid ≡ Some q → IsStill p q
    → is_running p.status ≡ true → next s (event.Steps pid ((private_rows code n p).count + m))
    ≡ ran pid (before (private_rows code n p).count (steps (after_private s pid (with_name_and_transit_of q (private_rows code n p))) pid m))
event_later s code pid n m p q same at still runs =
    let run : is_running q.status ≡ true = still_runs p q still runs in
    let count : ℕ = (private_rows code n p).count + m in
    let live : live_process s.processes pid ≡ Some q = ap alive at ∙ alive_of q (runs_on q.status run) in
    ap (next_steps s pid count) live
    ∙ (ap (λ b. cond b (refused s NotReady) (ran pid (steps s pid count))) (running_waits q.status run)
    ∙ ap (ran pid) (further_later s code pid n m p q same at still (runs_on p.status runs)))

pub commit_later : (s : State) (code : Code) (pid n : ℕ) (p q : Process) → s.code ≡ code → process_of s.processes pid ≡ Some q → IsStill p q
    → is_running p.status ≡ true → next s (event.Steps pid (private_rows code n p).count)
    ≡ replied (after_private s pid (with_name_and_transit_of q (private_rows code n p))) (Ran (private_rows code n p).count (then_of (private_rows code n p).process.status))
commit_later s code pid n p q same at still runs =
    let rows : Private = private_rows code n p in
    subst (λ (rows : Private). next s (event.Steps pid rows.count) ≡ replied (after_private s pid rows) (Ran rows.count (then_of rows.process.status)))
    (over s code n p q same still) (rows_event s pid n q at (still_runs p q still runs))
    ∙ ap (λ status. replied (after_private s pid (with_name_and_transit_of q rows)) (Ran rows.count (then_of status))) (having_status q.name q.transit rows.process)
