use Rattle.std.proofs.Common.{◌≡◌, ◌-◌}
use Rattle.beam_machine.specs.Prelude.{files_in}
use Rattle.beam_frame.proofs.Files.{with_front}
use Rattle.beam_frame.proofs.command.files.Given as goal

abbrev pub invariant-loop : goal.invariant-loop
invariant-loop l = with_front l.files.items (files_in (l.count - l.counter) l.rest) ≡ files_in l.count l.body
