use Rattle.beam_etf.proofs.Written.{written_spelled}
use Rattle.beam_etf.proofs.writing.written_again.Goals as goal

pub returns : goal.returns
returns c = written_spelled
