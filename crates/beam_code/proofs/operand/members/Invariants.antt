use Rattle.std.proofs.Common.{◌≡◌, drop}
use Rattle.beam_model.specs.Prelude.{members_of}
use Rattle.beam_code.proofs.Loops.{with_members}
use Rattle.beam_code.proofs.operand.members.Given as goal

abbrev pub invariant-loop-x : goal.invariant-loop-x
invariant-loop-x l = with_members l.items.items (members_of l.atoms l.literals (drop l.x-index l.xs)) ≡ members_of l.atoms l.literals l.xs
