use Rattle.beam_next_laws.proofs.OnlyEnds.{only_came, only_reached}
use Rattle.beam_next_laws.proofs.heard.only_ends_are_heard.Goals as goal

pub returns-clause-any : goal.returns-clause-any
returns-clause-any c = only_came

pub returns-clause-reached : goal.returns-clause-reached
returns-clause-reached c = only_reached
