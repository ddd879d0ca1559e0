use Rattle.beam_recall.proofs.Numbers.{numbered_are_all}
use Rattle.beam_recall.proofs.laws.numbered_are_all.Goals as goal

pub returns : goal.returns
returns c = numbered_are_all
