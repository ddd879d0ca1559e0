use Rattle.beam_operand.proofs.ReadingComplete.{operand_spelled}
use Rattle.beam_operand.proofs.ReadingSound.{operand_sound}
use Rattle.beam_operand.proofs.laws.spelled_is_read.Goals as goal

pub returns-clause-read : goal.returns-clause-read
returns-clause-read c text more v h = operand_spelled v text more h

pub returns-clause-spelled : goal.returns-clause-spelled
returns-clause-spelled c bytes rest v e = let t = operand_sound bytes (v, rest) e in (t.text, t.parts, t.is)
