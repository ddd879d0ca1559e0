use Rattle.beam_laws.proofs.Delayed.{rows_later, commit_later, further_later, event_later}
use Rattle.beam_laws.proofs.later.rows_count_later.Goals as goal

pub returns-clause-rows : goal.returns-clause-rows
returns-clause-rows c = rows_later

pub returns-clause-commit : goal.returns-clause-commit
returns-clause-commit c = commit_later

pub returns-clause-further : goal.returns-clause-further
returns-clause-further c = further_later

pub returns-clause-event : goal.returns-clause-event
returns-clause-event c = event_later
