use Rattle.beam_tables.proofs.Spellings.{tables_told, tables_read}
use Rattle.beam_tables.proofs.laws.tables_are_read.Goals as goal

pub returns : goal.returns
returns c form t code there = (λ are. tables_read form t code are there, λ e. (tables_told form t e).0)
