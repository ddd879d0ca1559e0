use Rattle.beam_model.specs.Prelude.{cut_short}
use Rattle.beam_iff.proofs.laws.cut_is_truncated.Goals as goal

pub returns : goal.returns
returns c = cut_short
