use Rattle.beam_operand.proofs.SpellingLaws.{five_short, five_long, literal_3, list_of_two}
use Rattle.beam_operand.proofs.laws.worked_bytes.Goals as goal

pub returns-clause-short : goal.returns-clause-short
returns-clause-short c = five_short

pub returns-clause-long : goal.returns-clause-long
returns-clause-long c = five_long

pub returns-clause-literal : goal.returns-clause-literal
returns-clause-literal c = literal_3

pub returns-clause-list : goal.returns-clause-list
returns-clause-list c = list_of_two
