use Rattle.std.proofs.Common.{ap, ◌∙◌, Result, Ok}
use Rattle.beam_model.specs.Prelude.{Listing, ListingFault}
use Rattle.beam_listing.proofs.RoundTrip.{printed_again}
use Rattle.beam_listing.proofs.Canonical.{text_canonical}
use Rattle.beam_listing.proofs.laws.read_is_printed.Goals as goal

abbrev done : Listing → Result Listing ListingFault
done l = Ok l

pub returns-clause-canonical : goal.returns-clause-canonical
returns-clause-canonical c = text_canonical

pub returns-clause-same : goal.returns-clause-same
returns-clause-same c = λ text l read is has. printed_again l is has ∙ ap done (text_canonical text l read)
