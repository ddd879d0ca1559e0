use Rattle.std.proofs.Common.{◌≡◌, ◌<◌, ◌==◌, length, true, cond, sym, ap, subst, ◌∙◌, eq-eqb, refl}
use Rattle.beam_sched.specs.declared.queue_states.QueueState.TheVariants.{CheckedOut}
use Rattle.beam_sched.specs.QueueStates.{queue_state_of}
use Rattle.beam_sched.proofs.locked_node.LockedNode.check_out.Goals as goal

pub returns-clause-checked_out : goal.returns-clause-checked_out
returns-clause-checked_out B c = λ within.
    let there : c.args.pid < length c.put.new.self = subst (λ n. c.args.pid < n) (sym c.put.ensures.len) within in
    let same : (c.args.pid == c.args.pid) ≡ true = eq-eqb c.args.pid c.args.pid refl in
    c.put-2.ensures.state there c.args.pid ∙ ap (λ b. cond b CheckedOut (queue_state_of c.put.new.self c.args.pid)) same
