use Rattle.std.proofs.Common.{not, rules, tests}
use Rattle.std.proofs.lemmas.Fn.{filter_same}
use Rattle.beam_model.specs.Prelude.{is_same_place}
use Rattle.beam_debug.proofs.places.take_out.Goals as goal

pub returns : goal.returns
returns c = filter_same _ (λ spot. not (is_same_place spot c.args.place)) _ (λ spot kept g step. search (rules, tests)) _ _ c.retain.ensures.filtered
