use Rattle.std.proofs.lemmas.Result.{err_from_is_err_and}
use Rattle.beam_operand.proofs.Fronts.{front, only_at_ok, only_at_err}
use Rattle.beam_operand.proofs.SpellingLaws.{told_whole, spelled_whole}
use Rattle.beam_operand.proofs.Small.{all_small}
use Rattle.beam_operand.proofs.read.read_operand.Goals as goal

pub overflow_sub-result : goal.overflow_sub-result
overflow_sub-result c = (front _ _ _ c.in_ok-operand.ensures).shorter

pub returns-clause-found : goal.returns-clause-found
returns-clause-found c = told_whole _ _ (front _ _ _ c.in_ok-operand.ensures).text_is

pub returns-clause-only : goal.returns-clause-only
returns-clause-only c text rest v s parts = only_at_ok _ _ _ c.in_ok-operand.ensures text rest v (spelled_whole text v s) parts

pub returns-in_err-operand-clause-only : goal.returns-in_err-operand-clause-only
returns-in_err-operand-clause-only c =
    let p = err_from_is_err_and c.from_residual.result c.from_residual.ensures.1 in
    rw (p.1, p.2) (λ text rest v s parts. only_at_err c.args.bytes.now c.in_err-operand.field-0.0 c.in_err-operand.ensures text rest v (spelled_whole text v s) parts)

pub returns-clause-small : goal.returns-clause-small
returns-clause-small c = all_small _ _ _ c.in_ok-operand.ensures

pub returns-clause-exact : goal.returns-clause-exact
returns-clause-exact c = rw (front _ _ _ c.in_ok-operand.ensures).rest_is c.in_ok-operand.ensures
