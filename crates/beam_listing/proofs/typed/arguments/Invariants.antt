use Rattle.std.proofs.Common.{take}
use Rattle.std.specs.List.{All}
use Rattle.beam_listing.specs.Prelude.{IsArgument}
use Rattle.beam_listing.proofs.typed.arguments.Given as goal

abbrev pub invariant-loop-one : goal.invariant-loop-one
invariant-loop-one l = All IsArgument (take l.one-index l.arguments)
