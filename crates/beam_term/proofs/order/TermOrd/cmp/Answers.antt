use Rattle.std.proofs.Common.{◌∙◌}
use Rattle.beam_term.specs.Prelude.{by_code_points}
use Rattle.beam_term.proofs.order.TermOrd.cmp.Goals as goal

pub returns-clause-by_code_points : goal.returns-clause-by_code_points
returns-clause-by_code_points c =
    c.compare.ensures
    ∙ by_code_points c.args.self.now c.args.other.now c.depth-lawful.ensures.lawful.in_range c.depth-other_lawful.ensures.lawful.in_range
