use Rattle.std.proofs.Common.{◌≡◌, ◌+◌, ◌*◌, drop}
use Rattle.std.specs.List.{list_all}
use Rattle.beam_model.specs.Prelude.{is_partial_term}
use Rattle.beam_listing.proofs.partial_terms.+partial.Given as goal

abbrev pub decreases-is_partial_term : goal.decreases-is_partial_term
decreases-is_partial_term l = 4 * l.levels

abbrev pub decreases-is_partial_tuple : goal.decreases-is_partial_tuple
decreases-is_partial_tuple l = 4 * l.levels + 3

abbrev pub decreases-are_partial_after_name : goal.decreases-are_partial_after_name
decreases-are_partial_after_name l = 4 * l.levels + 2

abbrev pub decreases-is_partial_list : goal.decreases-is_partial_list
decreases-is_partial_list l = 4 * l.levels + 2

abbrev pub decreases-are_partial_terms : goal.decreases-are_partial_terms
decreases-are_partial_terms l = 4 * l.levels + 1

abbrev pub invariant-are_partial_terms-loop-part : goal.invariant-are_partial_terms-loop-part
invariant-are_partial_terms-loop-part l = list_all (is_partial_term l.levels) (drop l.part-index l.parts) ≡ list_all (is_partial_term l.levels) l.parts
