use Rattle.std.proofs.Common.{rules, tests}
use Rattle.std.proofs.lemmas.Fn.{filter_same}
use Rattle.beam_machine.specs.Prelude.{is_live}
use Rattle.beam_debug.proofs.debug_state.settle_spots.Goals as goal

pub returns : goal.returns
returns c = filter_same _ (λ spot. is_live c.args.core.now.code spot.instance) _ (λ spot kept g step. search (rules, tests)) _ _ c.retain.ensures.filtered
