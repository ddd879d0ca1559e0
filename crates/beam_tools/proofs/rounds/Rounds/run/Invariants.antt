use Rattle.std.proofs.Common.{◌≡◌, ◌-◌}
use Rattle.beam_tools.specs.Prelude.{outcome_within}
use Rattle.beam_tools.proofs.rounds.Rounds.run.Given as goal

abbrev pub invariant-loop : goal.invariant-loop
invariant-loop l = record { same : outcome_within (18446744073709551615 - l.counter) l.self ≡ outcome_within 18446744073709551615 l.fn.self }
