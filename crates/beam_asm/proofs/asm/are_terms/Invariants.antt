use Rattle.std.proofs.Common.{take}
use Rattle.std.specs.List.{All}
use Rattle.beam_term.specs.Prelude.{IsTerm}
use Rattle.beam_asm.proofs.asm.are_terms.Given as goal

abbrev pub invariant-loop-literal : goal.invariant-loop-literal
invariant-loop-literal l = All IsTerm (take l.literal-index l.literals)
