-- What demonitor makes of a process, by the reference and the option in its arguments, and what its row answers.
use Rattle.std.specs.Prelude.{ℕ, Ok}
use Rattle.beam_machine.specs.declared.callee.After.{After}
use Rattle.beam_machine.specs.declared.event.Then.{Then}
use Rattle.beam_machine.specs.Prelude.{Process, Outcome, makes, demonitored, flushed_if, changed_by, answers_true, arguments_of}
use Rattle.beam_model.specs.declared.native.ProcessNative.{ProcessNative}
use Rattle.beam_proc.specs.Prelude.{Makes}
use Rattle.beam_rows.specs.declared.of_process.Demonitoring.{Demonitoring}

-- a process without its monitor of a reference, and, with `flush`, without its first message of that reference
abbrev pub without : Demonitoring → Process → Process
without u p = flushed_if u.flush (demonitored p u.reference) u.reference

-- an outcome whose process is without that monitor
abbrev pub leaves_without : Demonitoring → Outcome → Outcome
leaves_without u (makes p) = makes (without u p)
leaves_without u outcome = outcome

-- whatever outcome a row had, with this answer, before a change of its process: after the change it has that outcome without the monitor
abbrev pub TakesAway : Demonitoring → Then → Process → Process → Type 0
TakesAway u said before after =
    (old : Process) (outcome : Outcome) → Makes old outcome (Ok said) before → Makes old (leaves_without u outcome) (Ok said) after

-- what the call of a native of its process comes to
abbrev pub called : ProcessNative → ℕ → After → Process → Outcome
called native arity after p = makes (answers_true p after (changed_by p native (arguments_of p arity)))
