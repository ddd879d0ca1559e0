use Rattle.std.proofs.Common.{drop}
use Rattle.beam_operand.proofs.Writing.{Written}
use Rattle.beam_operand.proofs.write.push_members.Given as goal

abbrev pub invariant-loop-member : goal.invariant-loop-member
invariant-loop-member l = Written l.fn.out.items l.out.items (drop l.member-index l.members) l.members
