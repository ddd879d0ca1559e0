use Rattle.beam_receipts.proofs.Moves.{unused}
use Rattle.beam_receipts.proofs.laws.no_entries_yet.Goals as goal

pub returns : goal.returns
returns c = λ given journal below. unused given journal below
