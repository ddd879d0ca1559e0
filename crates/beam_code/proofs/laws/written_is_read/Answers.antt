use Rattle.beam_code.proofs.RoundTrip.{code_again}
use Rattle.beam_code.proofs.laws.written_is_read.Goals as goal

pub returns : goal.returns
returns c = code_again
