use Rattle.beam_frame.proofs.Streams.{pieces_told}
use Rattle.beam_frame.proofs.laws.any_pieces.Goals as goal

pub returns : goal.returns
returns c = pieces_told
