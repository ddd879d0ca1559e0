use Rattle.beam_listing.proofs.TextStanding.{text_told, text_read}
use Rattle.beam_listing.proofs.laws.texts_are_read.Goals as goal

pub returns : goal.returns
returns c text l = (text_read text l, text_told text l)
