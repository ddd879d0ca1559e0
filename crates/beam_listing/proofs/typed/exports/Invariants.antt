use Rattle.std.proofs.Common.{take}
use Rattle.std.specs.List.{All}
use Rattle.beam_listing.specs.Prelude.{IsExport}
use Rattle.beam_listing.proofs.typed.exports.Given as goal

abbrev pub invariant-loop-one : goal.invariant-loop-one
invariant-loop-one l = All IsExport (take l.one-index l.exports)
