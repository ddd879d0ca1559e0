use Rattle.std.proofs.Common.{◌∙◌}
use Rattle.beam_shared.proofs.CommittedRows.{ended_places}
use Rattle.beam_shared.proofs.committing.are_same_places.Goals as goal

pub returns : goal.returns
returns c =
    ended_places c.loop-spot.spots.now c.loop-spot.others.now c.is_empty.result c.in_default.ensures.cases c.is_empty.ensures
    ∙ c.loop-spot.invariant
