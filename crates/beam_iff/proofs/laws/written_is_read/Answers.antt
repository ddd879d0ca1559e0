use Rattle.beam_model.specs.Prelude.{read_again}
use Rattle.beam_iff.proofs.laws.written_is_read.Goals as goal

pub returns : goal.returns
returns c = read_again
