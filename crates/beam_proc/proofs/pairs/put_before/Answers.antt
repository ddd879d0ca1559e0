use Rattle.std.proofs.Common.{◌∙◌, ap, subst}
use Rattle.beam_machine.specs.Prelude.{read_x}
use Rattle.beam_term.specs.Prelude.{IsTerm, nil_term, pair_term}
use Rattle.beam_proc.proofs.Emptied.{given_back, given_else}
use Rattle.beam_proc.proofs.pairs.put_before.Goals as goal

pub returns-in-Ok-clause-done : goal.returns-in-Ok-clause-done
returns-in-Ok-clause-done c =
    let whole = c.in-Ok.ensures.ok ∙ ap (λ t. pair_term c.args.head t) c.take.ensures.value in
    λ _. (
      subst IsTerm whole c.depth-lawful.ensures.lawful,
      rw (c.give.ensures.items, c.take.ensures.items, whole)
          (given_else c.args.x.now.items c.args.register nil_term (pair_term c.args.head (read_x c.args.x.now.items c.args.register)) c.requires),
    )

pub returns-clause-left : goal.returns-clause-left
returns-clause-left c = λ _. rw (c.give-in-Err.ensures.items, c.take.ensures.items, c.in-Err.ensures.parts.1, c.take.ensures.value)
    (given_back c.args.x.now.items c.args.register nil_term)
