use Rattle.beam_disasm.proofs.Worked.{code_stands, file_stands}
use Rattle.beam_disasm.proofs.laws.worked_file.Goals as goal

pub returns-clause-code : goal.returns-clause-code
returns-clause-code c = code_stands

pub returns-clause-file : goal.returns-clause-file
returns-clause-file c = file_stands
