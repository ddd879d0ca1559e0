use Rattle.beam_state.proofs.Purged.{purge_is}
use Rattle.beam_state.proofs.replacement.purge.Goals as goal

pub returns-clause-next : goal.returns-clause-next
returns-clause-next c = λ clock n count.
    purge_is c.args.code.now c.drop_old.new.self c.args.processes.now c.tell_and_end.new.processes c.args.name.now c.old.result c.in_ok-ended.ended clock n count
    c.old.ensures c.drop_old.ensures c.in_ok-ended.ensures.ok c.in_ok-ended.ensures.some
