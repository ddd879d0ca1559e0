use Rattle.std.proofs.Common.{◌≡◌}
use Rattle.beam_machine.specs.Prelude.{arguments_from}
use Rattle.beam_proc.proofs.process.Process.arguments.Given as goal

abbrev pub invariant-loop-register : goal.invariant-loop-register
invariant-loop-register l = l.values.items ≡ arguments_from l.fn.self.x 0 l.register
