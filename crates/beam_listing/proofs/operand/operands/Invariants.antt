use Rattle.std.proofs.Common.{◌≡◌, [], drop}
use Rattle.beam_model.specs.Prelude.{operands_from}
use Rattle.beam_listing.proofs.operand.operands.Given as goal

abbrev pub invariant-loop-part : goal.invariant-loop-part
invariant-loop-part l = operands_from l.items.items l.letters (drop l.part-index l.parts) ≡ operands_from [] l.kinds l.parts
