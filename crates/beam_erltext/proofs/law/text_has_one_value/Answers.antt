use Rattle.beam_erltext.proofs.ReadingComplete.{one_value}
use Rattle.beam_erltext.proofs.law.text_has_one_value.Goals as goal

pub returns : goal.returns
returns c = one_value
