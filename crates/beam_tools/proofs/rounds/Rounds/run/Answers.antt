use Rattle.std.proofs.Common.{arith, ◌+◌, ◌-◌, ◌≡◌, ◌∙◌, ap, sym, ℕ, Option}
use Rattle.beam_tools.specs.declared.rounds.CallOutcome.{CallOutcome}
use Rattle.beam_tools.specs.Prelude.{outcome_by, outcome_within, onward_of}
use Rattle.beam_tools.proofs.Turns.{outcome_on, outcome_zero}
use Rattle.beam_tools.proofs.rounds.Rounds.run.Goals as goal

pub returns-in-Some-clause-outcome : goal.returns-in-Some-clause-outcome
returns-in-Some-clause-outcome c =
    let n : ℕ = 18446744073709551615 - (c.loop.counter + 1) in
    let more : 18446744073709551615 - c.loop.counter ≡ n + 1 = omega arith in
    sym (ap (λ (o : Option CallOutcome). outcome_by (outcome_within n) (onward_of o c.go_on.new.self)) c.in-Some.is)
    ∙ sym (outcome_on (18446744073709551615 - c.loop.counter) n c.loop.self c.go_on.new.self c.in_ok-outcome.field-0 more c.in_ok-outcome.ensures.onward)
    ∙ c.loop.invariant.same

pub loop-preserved : goal.loop-preserved
loop-preserved c =
    let n : ℕ = 18446744073709551615 - (c.loop.counter + 1) in
    let more : 18446744073709551615 - c.loop.counter ≡ n + 1 = omega arith in
    record {
      same = sym (ap (λ (o : Option CallOutcome). outcome_by (outcome_within n) (onward_of o c.go_on.new.self)) c.in_default.is)
          ∙ sym (outcome_on (18446744073709551615 - c.loop.counter) n c.loop.self c.go_on.new.self c.in_ok-outcome.field-0 more c.in_ok-outcome.ensures.onward)
          ∙ c.loop.invariant.same;
    }

pub returns-clause-outcome : goal.returns-clause-outcome
returns-clause-outcome c =
    let over : 18446744073709551615 - c.loop.counter ≡ 0 = omega arith in
    sym (outcome_zero (18446744073709551615 - c.loop.counter) c.loop.self over) ∙ c.loop.invariant.same
