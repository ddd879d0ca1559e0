use Rattle.std.proofs.Common.{◌≡◌, map, take}
use Rattle.beam_model.specs.Prelude.{export_by}
use Rattle.beam_listing.proofs.entries.with_labels.Given as goal

abbrev pub invariant-loop-signature : goal.invariant-loop-signature
invariant-loop-signature l = l.exports.items ≡ map (export_by l.functions) (take l.signature-index l.signatures)
