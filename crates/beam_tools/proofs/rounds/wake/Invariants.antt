use Rattle.std.proofs.Common.{◌≡◌, ◌-◌}
use Rattle.beam_machine.specs.Prelude.{most_processes}
use Rattle.beam_tools.specs.Prelude.{woken}
use Rattle.beam_tools.proofs.rounds.wake.Given as goal

abbrev pub invariant-loop : goal.invariant-loop
invariant-loop l = record { same : woken (most_processes - l.counter) l.now l.node ≡ woken most_processes l.now l.fn.node }
