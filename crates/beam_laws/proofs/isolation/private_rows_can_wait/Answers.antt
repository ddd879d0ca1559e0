use Rattle.beam_laws.proofs.Waiting.{others_leave, rows_wait, commits}
use Rattle.beam_laws.proofs.isolation.private_rows_can_wait.Goals as goal

pub returns-clause-process : goal.returns-clause-process
returns-clause-process c = others_leave

pub returns-clause-rows : goal.returns-clause-rows
returns-clause-rows c = rows_wait

pub returns-clause-commit : goal.returns-clause-commit
returns-clause-commit c = commits
