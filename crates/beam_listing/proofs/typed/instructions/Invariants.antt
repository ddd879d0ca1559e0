use Rattle.std.proofs.Common.{take}
use Rattle.std.specs.List.{All}
use Rattle.beam_listing.specs.Typed.{AreOperands}
use Rattle.beam_listing.proofs.typed.instructions.Given as goal

abbrev pub invariant-loop-instruction : goal.invariant-loop-instruction
invariant-loop-instruction l = All AreOperands (take l.instruction-index l.instructions)
