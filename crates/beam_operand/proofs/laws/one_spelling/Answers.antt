use Rattle.beam_operand.proofs.SpellingLaws.{no_other_spelling}
use Rattle.beam_operand.proofs.laws.one_spelling.Goals as goal

pub returns : goal.returns
returns c = no_other_spelling
