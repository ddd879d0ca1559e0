use Rattle.beam_records.proofs.NoRecord.{no_record}
use Rattle.beam_records.proofs.laws.no_record.Goals as goal

pub returns : goal.returns
returns c = no_record
