use Rattle.beam_listing.proofs.Balanced.{mark_stops, closing_stops, balanced_told, balanced_read}
use Rattle.beam_listing.proofs.laws.pieces_are_balanced.Goals as goal

pub returns-clause-mark : goal.returns-clause-mark
returns-clause-mark c mark text rest plain = (balanced_read mark text mark rest plain (mark_stops mark), balanced_told mark text mark rest)

pub returns-clause-closing : goal.returns-clause-closing
returns-clause-closing c mark close text rest plain closing = (balanced_read mark text close rest plain (closing_stops mark close closing), balanced_told mark text close rest)
