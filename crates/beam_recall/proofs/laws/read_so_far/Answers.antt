use Rattle.beam_recall.proofs.FileRead.{read_so_far}
use Rattle.beam_recall.proofs.laws.read_so_far.Goals as goal

pub returns : goal.returns
returns c = read_so_far
