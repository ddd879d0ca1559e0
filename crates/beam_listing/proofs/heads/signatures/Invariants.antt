use Rattle.std.proofs.Common.{◌≡◌, [], drop}
use Rattle.beam_model.specs.Prelude.{signatures_from}
use Rattle.beam_listing.proofs.heads.signatures.Given as goal

abbrev pub invariant-loop-part : goal.invariant-loop-part
invariant-loop-part l = signatures_from l.signatures.items (drop l.part-index l.parts) ≡ signatures_from [] l.parts
