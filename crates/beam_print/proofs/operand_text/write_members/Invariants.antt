use Rattle.std.proofs.Common.{[], ◌++◌, drop}
use Rattle.beam_model.specs.Prelude.{arguments_text}
use Rattle.beam_print.specs.Begun.{IsWrittenUpTo}
use Rattle.beam_print.proofs.operand_text.write_members.Given as goal

-- the text was written up to the waiting text and the remaining members
abbrev pub invariant-loop-member : goal.invariant-loop-member
invariant-loop-member g l = IsWrittenUpTo (g.W.Write.contents l.initial.out) (g.W.Write.contents l.out) (l.initial.waiting.items ++ arguments_text [] l.members)
    (l.waiting.items ++ arguments_text l.separator (drop l.member-index l.members))
