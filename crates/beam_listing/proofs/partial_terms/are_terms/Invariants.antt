use Rattle.std.proofs.Common.{◌≡◌, drop}
use Rattle.std.specs.List.{list_all}
use Rattle.beam_model.specs.Prelude.{is_term}
use Rattle.beam_listing.proofs.partial_terms.are_terms.Given as goal

abbrev pub invariant-loop-part : goal.invariant-loop-part
invariant-loop-part l = list_all is_term (drop l.part-index l.parts) ≡ list_all is_term l.parts
