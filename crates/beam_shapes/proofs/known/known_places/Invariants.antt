use Rattle.std.proofs.Common.{◌≡◌, ℕ, None, get_or, ◌&&◌, nat_eq, nat_lt, is_some}
use Rattle.std.specs.List.{list_any}
use Rattle.beam_shapes.proofs.known.known_places.Given as goal

-- the places found so far are those of which something is known
abbrev pub invariant-loop-place : goal.invariant-loop-place
invariant-loop-place l = (at : ℕ) → list_any (nat_eq at) l.places.items ≡ (nat_lt at l.place && is_some (get_or l.shapes at None))
