use Rattle.std.proofs.Common.{sym, ap, ◌∙◌}
use Rattle.beam_state.proofs.OldCode.{One, strict_ends, soft_ends, hard_ends}
use Rattle.beam_state.proofs.upgrading.make_way.Goals as goal

pub returns-in-Strict-clause-ok : goal.returns-in-Strict-clause-ok
returns-in-Strict-clause-ok c = λ code ls clock instances count old clear.
    let ps = c.args.processes.now in
    strict_ends code ps clock instances count ls c.args.old.now.keys old (ap (λ mode. One mode code ps clock instances count ls) (sym c.in-Strict.is) ∙ clear)

pub returns-in-Soft-clause-ok : goal.returns-in-Soft-clause-ok
returns-in-Soft-clause-ok c = λ code ls clock instances count old clear.
    let ps = c.args.processes.now in
    soft_ends code ps clock instances count ls c.args.old.now.keys old (ap (λ mode. One mode code ps clock instances count ls) (sym c.in-Soft.is) ∙ clear)

pub returns-in_ok-tell_and_end-in-Hard-clause-ok : goal.returns-in_ok-tell_and_end-in-Hard-clause-ok
returns-in_ok-tell_and_end-in-Hard-clause-ok c = λ code ls clock instances count old clear.
    c.in_ok-tell_and_end-in-Hard.ensures.ok ∙ hard_ends code c.args.processes.now ls c.args.old.now.keys old
