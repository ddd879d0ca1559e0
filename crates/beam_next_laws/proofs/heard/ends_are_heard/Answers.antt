use Rattle.beam_next_laws.proofs.Ends.{some_came, all_came, each_came, came_last, each_reached}
use Rattle.beam_next_laws.proofs.heard.ends_are_heard.Goals as goal

pub returns-clause-behind : goal.returns-clause-behind
returns-clause-behind c = some_came

pub returns-clause-all : goal.returns-clause-all
returns-clause-all c = all_came

pub returns-clause-each : goal.returns-clause-each
returns-clause-each c = each_came

pub returns-clause-reached : goal.returns-clause-reached
returns-clause-reached c = each_reached

pub returns-clause-last : goal.returns-clause-last
returns-clause-last c = came_last
