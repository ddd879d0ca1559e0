use Rattle.beam_receipts.proofs.Counts.{counts}
use Rattle.beam_receipts.proofs.laws.counts_add_up.Goals as goal

pub returns : goal.returns
returns c = λ given journal below. counts given journal below
