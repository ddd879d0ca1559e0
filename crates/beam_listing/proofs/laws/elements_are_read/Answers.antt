use Rattle.beam_listing.proofs.Bracketed.{tuple_told, tuple_read, list_told, list_read}
use Rattle.beam_listing.proofs.laws.elements_are_read.Goals as goal

pub returns-clause-tuple : goal.returns-clause-tuple
returns-clause-tuple c elements text = (tuple_read elements text, tuple_told elements text)

pub returns-clause-list : goal.returns-clause-list
returns-clause-list c elements text = (list_read elements text, list_told elements text)
