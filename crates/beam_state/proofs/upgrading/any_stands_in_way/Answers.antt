use Rattle.std.proofs.Common.{sym, ap, ◌∙◌}
use Rattle.beam_state.proofs.OldCode.{One, strict_stands, soft_stands, hard_stands}
use Rattle.beam_state.proofs.upgrading.any_stands_in_way.Goals as goal

pub returns-in-Strict : goal.returns-in-Strict
returns-in-Strict c = λ code ls clock instances count old.
    let ps = c.args.processes.now in
    strict_stands code ps clock instances count ls c.args.old.now.keys c.is_empty.result c.is_empty.ensures old
    ∙ ap (λ mode. One mode code ps clock instances count ls) (sym c.in-Strict.is)

pub returns-in-Soft : goal.returns-in-Soft
returns-in-Soft c = λ code ls clock instances count old.
    let ps = c.args.processes.now in
    c.one_lingers.ensures ∙ (soft_stands code ps clock instances count ls c.args.old.now.keys old ∙ ap (λ mode. One mode code ps clock instances count ls) (sym c.in-Soft.is))

pub returns-in-Hard : goal.returns-in-Hard
returns-in-Hard c = λ code ls clock instances count old.
    let ps = c.args.processes.now in
    hard_stands code ps clock instances count ls ∙ ap (λ mode. One mode code ps clock instances count ls) (sym c.in-Hard.is)
