use Rattle.beam_frame.proofs.Spelling.{read_again, read_is_spelled}
use Rattle.beam_frame.proofs.laws.spelled_is_read.Goals as goal

pub returns : goal.returns
returns c = λ n body d. (read_again n body d, read_is_spelled n body d)
