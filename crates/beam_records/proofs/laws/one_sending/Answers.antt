use Rattle.beam_records.proofs.OneRecord.{one_sent}
use Rattle.beam_records.proofs.laws.one_sending.Goals as goal

pub returns : goal.returns
returns c = one_sent
