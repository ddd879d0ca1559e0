use Rattle.beam_laws.proofs.Commits.{rows_go_on}
use Rattle.beam_laws.proofs.Slices.{rows_event, rows_whole}
use Rattle.beam_laws.proofs.isolation.private_rows_are_next.Goals as goal

pub returns-clause-next : goal.returns-clause-next
returns-clause-next c = rows_go_on

pub returns-clause-event : goal.returns-clause-event
returns-clause-event c = rows_event

pub returns-clause-all : goal.returns-clause-all
returns-clause-all c = rows_whole
