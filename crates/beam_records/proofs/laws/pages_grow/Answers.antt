use Rattle.beam_records.proofs.Growing.{empty_page, page_then}
use Rattle.beam_records.proofs.laws.pages_grow.Goals as goal

pub returns-clause-empty : goal.returns-clause-empty
returns-clause-empty c = empty_page

pub returns-clause-more : goal.returns-clause-more
returns-clause-more c = page_then
