use Rattle.beam_frame.proofs.Spelling.{one_spelling}
use Rattle.beam_frame.proofs.laws.one_command.Goals as goal

pub returns : goal.returns
returns c = one_spelling
