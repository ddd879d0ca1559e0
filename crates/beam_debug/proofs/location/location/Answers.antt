use Rattle.std.proofs.Common.{◌≡◌, sym, ap, ◌∙◌, rules, None}
use Rattle.beam_machine.specs.Prelude.{listing_of, instructions_of, location_in}
use Rattle.beam_debug.proofs.Backwards.{standing_nowhere}
use Rattle.beam_debug.proofs.location.location.Goals as goal

pub returns-in-None : goal.returns-in-None
returns-in-None c =
    let none : listing_of c.args.table.now c.args.place.instance ≡ None = search rules in
    rw c.instance-in-None.ensures (sym (ap (λ o. location_in c.args.place (instructions_of o)) none ∙ standing_nowhere c.args.place))
