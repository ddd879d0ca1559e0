use Rattle.std.proofs.Common.{arith, ◌+◌, ◌-◌, ◌≡◌, ◌∙◌, ap, sym, ℕ}
use Rattle.beam_machine.specs.Prelude.{most_processes, State}
use Rattle.beam_tools.specs.Prelude.{woken}
use Rattle.beam_tools.proofs.Turns.{woken_due, woken_late, woken_none, woken_zero}
use Rattle.beam_tools.proofs.rounds.wake.Goals as goal

pub returns-in_default-clause-state : goal.returns-in_default-clause-state
returns-in_default-clause-state c =
    let n : ℕ = most_processes - (c.loop.counter + 1) in
    let more : most_processes - c.loop.counter ≡ n + 1 = omega arith in
    sym (woken_none (most_processes - c.loop.counter) n c.args.now c.loop.node more (sym c.next_deadline.ensures ∙ c.in_default.is)) ∙ c.loop.invariant.same

pub returns-then-now-at-clause-state : goal.returns-then-now-at-clause-state
returns-then-now-at-clause-state c =
    let n : ℕ = most_processes - (c.loop.counter + 1) in
    let more : most_processes - c.loop.counter ≡ n + 1 = omega arith in
    sym (woken_late (most_processes - c.loop.counter) n c.args.now c.loop.node (c.in-Some.at, c.in-Some.pid) more (sym c.next_deadline.ensures ∙ c.in-Some.is) c.if-now-at.true)
    ∙ c.loop.invariant.same

pub loop-preserved : goal.loop-preserved
loop-preserved c =
    let n : ℕ = most_processes - (c.loop.counter + 1) in
    let more : most_processes - c.loop.counter ≡ n + 1 = omega arith in
    let is = woken_due (most_processes - c.loop.counter) n c.args.now c.loop.node (c.in-Some.at, c.in-Some.pid) more (sym c.next_deadline.ensures ∙ c.in-Some.is) (omega arith) in
    record { same = ap (λ (s : State). woken n c.args.now s) c.in_ok-happen.ensures.state ∙ sym is ∙ c.loop.invariant.same }

pub returns-clause-state : goal.returns-clause-state
returns-clause-state c =
    let over : most_processes - c.loop.counter ≡ 0 = omega arith in
    sym (woken_zero (most_processes - c.loop.counter) c.args.now c.loop.node over) ∙ c.loop.invariant.same
