use Rattle.std.proofs.Common.{◌==◌, not, rules, tests}
use Rattle.std.proofs.lemmas.Fn.{filter_same}
use Rattle.beam_debug.proofs.numbers.take_out.Goals as goal

pub returns-clause-items : goal.returns-clause-items
returns-clause-items c = filter_same _ (λ other. not (other == c.args.pid)) _ (λ pid kept g step. search (rules, tests)) _ _ c.retain.ensures.filtered
