use Rattle.beam_records.proofs.OneList.{one_kept}
use Rattle.beam_records.proofs.laws.one_list.Goals as goal

pub returns : goal.returns
returns c = one_kept
