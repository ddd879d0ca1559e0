use Rattle.beam_code.proofs.Codes.{code_told, code_read}
use Rattle.beam_code.proofs.laws.code_is_read.Goals as goal

pub returns : goal.returns
returns c t bytes code = (code_read t bytes code, code_told t bytes code)
