use Rattle.beam_disasm.proofs.Cut.{cut}
use Rattle.beam_disasm.proofs.laws.cut_is_truncated.Goals as goal

pub returns : goal.returns
returns c = cut
