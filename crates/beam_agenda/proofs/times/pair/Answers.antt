use Rattle.std.proofs.Common.{◌*◌}
use Rattle.std.proofs.lemmas.List.{get_or_default}
use Rattle.beam_agenda.proofs.Pairing.{of_two_is, of_last_is}
use Rattle.beam_agenda.proofs.times.pair.Goals as goal

pub returns-in-Some : goal.returns-in-Some
returns-in-Some c =
    let l = c.in-Some.ensures.lookup in
    of_two_is c.args.times.now c.args.at _ c.in-Some.right.now c.earlier.result (get_or_default c.args.times.now (2 * c.args.at) _ _ c.requires) l.3.0 l.1 c.earlier.ensures

pub returns-in-None : goal.returns-in-None
returns-in-None c =
    let l = c.in-None.ensures.lookup in
    of_last_is c.args.times.now c.args.at _ c.requires (get_or_default c.args.times.now (2 * c.args.at) _ _ c.requires) l.3
