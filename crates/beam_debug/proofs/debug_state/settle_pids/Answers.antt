use Rattle.std.proofs.Common.{rules, tests}
use Rattle.std.proofs.lemmas.Fn.{filter_same}
use Rattle.beam_machine.specs.Prelude.{is_live_process}
use Rattle.beam_debug.proofs.debug_state.settle_pids.Goals as goal

pub returns-clause-items : goal.returns-clause-items
returns-clause-items c = filter_same _ (is_live_process c.args.core.now) _ (λ pid kept g step. search (rules, tests)) _ _ c.retain.ensures.filtered
