use Rattle.beam_operand.proofs.Small.{given_small}
use Rattle.beam_operand.proofs.read.read_single.Goals as goal

pub returns-in-len1-up-clause-small : goal.returns-in-len1-up-clause-small
returns-in-len1-up-clause-small c = given_small c.single_behind.result (λ b. b.now) _ _ _ c.single_behind.ensures.exact
