use Rattle.beam_print.specs.Begun.{IsWrittenUpTo}
use Rattle.beam_print.proofs.blocks.write_text.Given as goal

-- the text was written up to the rest
abbrev pub invariant-loop : goal.invariant-loop
invariant-loop g l = IsWrittenUpTo (g.W.Write.contents l.initial.out) (g.W.Write.contents l.out) l.text l.rest
