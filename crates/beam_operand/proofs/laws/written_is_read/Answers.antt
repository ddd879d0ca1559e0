use Rattle.beam_operand.proofs.RoundTrip.{operand_again}
use Rattle.beam_operand.proofs.SpellingLaws.{written_spells}
use Rattle.beam_operand.proofs.laws.written_is_read.Goals as goal

pub returns-clause-spells : goal.returns-clause-spells
returns-clause-spells c = written_spells

pub returns-clause-again : goal.returns-clause-again
returns-clause-again c = operand_again
