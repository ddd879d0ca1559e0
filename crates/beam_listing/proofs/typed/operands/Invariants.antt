use Rattle.std.proofs.Common.{take}
use Rattle.std.specs.List.{All}
use Rattle.beam_listing.specs.Typed.{IsOperand}
use Rattle.beam_listing.proofs.typed.operands.Given as goal

abbrev pub invariant-loop-one : goal.invariant-loop-one
invariant-loop-one l = All IsOperand (take l.one-index l.operands)
