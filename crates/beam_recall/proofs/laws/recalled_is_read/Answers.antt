use Rattle.beam_recall.proofs.FileRead.{recalled_is_read}
use Rattle.beam_recall.proofs.laws.recalled_is_read.Goals as goal

pub returns : goal.returns
returns c = recalled_is_read
