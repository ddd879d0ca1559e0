use Rattle.beam_records.proofs.OneRecord.{record_ends, record_says}
use Rattle.beam_records.proofs.laws.one_record.Goals as goal

pub returns-clause-ends : goal.returns-clause-ends
returns-clause-ends c = record_ends

pub returns-clause-says : goal.returns-clause-says
returns-clause-says c = record_says
