use Rattle.std.proofs.Common.{◌≡◌, ◌-◌}
use Rattle.beam_model.specs.Prelude.{members_at}
use Rattle.beam_operand.proofs.Loop.{with_front}
use Rattle.beam_operand.proofs.read.members.Given as goal

abbrev pub invariant-loop : goal.invariant-loop
invariant-loop l = with_front l.members.items (members_at (l.count - l.counter) l.rest) ≡ members_at l.count l.bytes
