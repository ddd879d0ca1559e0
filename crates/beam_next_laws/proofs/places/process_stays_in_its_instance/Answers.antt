use Rattle.beam_next_laws.proofs.Staying.{stays}
use Rattle.beam_next_laws.proofs.StayingRows.{row_stays}
use Rattle.beam_next_laws.proofs.places.process_stays_in_its_instance.Goals as goal

pub returns-clause-event : goal.returns-clause-event
returns-clause-event c = row_stays

pub returns-clause-outcome : goal.returns-clause-outcome
returns-clause-outcome c = stays
