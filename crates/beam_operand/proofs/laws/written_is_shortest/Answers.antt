use Rattle.beam_operand.proofs.SpellingLaws.{shortest_spelling}
use Rattle.beam_operand.proofs.laws.written_is_shortest.Goals as goal

pub returns : goal.returns
returns c = shortest_spelling
