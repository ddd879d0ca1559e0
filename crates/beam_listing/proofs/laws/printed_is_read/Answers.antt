use Rattle.beam_listing.proofs.RoundTrip.{printed_again}
use Rattle.beam_listing.proofs.Loads.{loadable_has_text}
use Rattle.beam_listing.proofs.laws.printed_is_read.Goals as goal

pub returns-clause-read : goal.returns-clause-read
returns-clause-read c = printed_again

pub returns-clause-loadable : goal.returns-clause-loadable
returns-clause-loadable c = λ l is loads terms. printed_again l is (loadable_has_text l loads terms)
