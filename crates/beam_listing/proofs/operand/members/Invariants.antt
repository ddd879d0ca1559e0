use Rattle.std.proofs.Common.{◌≡◌, [], drop}
use Rattle.beam_model.specs.Prelude.{members_from}
use Rattle.beam_listing.proofs.operand.members.Given as goal

abbrev pub invariant-loop-part : goal.invariant-loop-part
invariant-loop-part l = members_from l.items.items (drop l.part-index l.parts) ≡ members_from [] l.parts
