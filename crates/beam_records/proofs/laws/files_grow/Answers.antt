use Rattle.beam_records.proofs.Growing.{new_file, file_then}
use Rattle.beam_records.proofs.laws.files_grow.Goals as goal

pub returns-clause-empty : goal.returns-clause-empty
returns-clause-empty c = new_file

pub returns-clause-more : goal.returns-clause-more
returns-clause-more c = file_then
