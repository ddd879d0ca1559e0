use Rattle.beam_listing.proofs.TextStanding.{one_listing}
use Rattle.beam_listing.proofs.laws.one_listing.Goals as goal

pub returns : goal.returns
returns c = one_listing
