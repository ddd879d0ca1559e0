use Rattle.beam_tools.proofs.Turns.{count_after, state_after, within}
use Rattle.beam_tools.proofs.rounds.run_rows.Goals as goal

pub returns-clause-state : goal.returns-clause-state
returns-clause-state c = state_after c.args.node.now c.apply-answer.new.self c.args.pid c.args.rows c.apply-answer.result c.counted.result
    c.counted.ensures.whole c.apply-answer.ensures.next

pub returns-clause-count : goal.returns-clause-count
returns-clause-count c = count_after c.args.node.now c.apply-answer.new.self c.args.pid c.args.rows c.apply-answer.result c.counted.result
    c.counted.ensures.whole c.counted.ensures.count c.apply-answer.ensures.next

pub returns-clause-within : goal.returns-clause-within
returns-clause-within c = within c.args.node.now c.args.pid c.args.rows c.counted.result (count_after c.args.node.now c.apply-answer.new.self c.args.pid c.args.rows
    c.apply-answer.result c.counted.result c.counted.ensures.whole c.counted.ensures.count c.apply-answer.ensures.next)
