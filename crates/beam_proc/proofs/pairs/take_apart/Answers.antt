use Rattle.std.proofs.Common.{◌∙◌, sym}
use Rattle.beam_term.specs.Prelude.{nil_term}
use Rattle.beam_proc.proofs.Emptied.{given_back, given_behind}
use Rattle.beam_proc.proofs.pairs.take_apart.Goals as goal

pub returns-in-Ok-clause-done : goal.returns-in-Ok-clause-done
returns-in-Ok-clause-done c = λ _. (
  c.in-Ok.first,
  c.in-Ok.rest,
  sym (c.in-Ok.ensures.parts ∙ c.take.ensures.value),
  rw (c.give.ensures.items, c.rewrite.ensures.items, c.take.ensures.items)
      (given_behind c.args.x.now.items c.args.head c.args.register nil_term c.in-Ok.first c.in-Ok.rest c.requires.head c.requires.register c.requires.other),
)

pub returns-in-Err-clause-left : goal.returns-in-Err-clause-left
returns-in-Err-clause-left c = λ _. rw (c.give-in-Err.ensures.items, c.take.ensures.items, c.in-Err.ensures.whole, c.take.ensures.value)
    (given_back c.args.x.now.items c.args.register nil_term)
