use Rattle.std.proofs.Common.{◌≡◌, ℕ, ap, ◌∙◌, rules, Option, Some, None}
use Rattle.beam_debug.specs.Prelude.{spot_insert_position}
use Rattle.beam_debug.proofs.Insertions.{opened, spot_put}
use Rattle.beam_debug.proofs.places.put.Goals as goal

pub returns-in_ok-insert-in-Some-clause-ok : goal.returns-in_ok-insert-in-Some-clause-ok
returns-in_ok-insert-in-Some-clause-ok c =
    let spots = c.args.spots.now.items in
    let items : c.insert.new.self.items ≡ opened (Some c.in-Some.at) c.args.place spots = search rules in
    let found : Some c.in-Some.at ≡ spot_insert_position c.args.place 0 spots = search rules in
    items ∙ (ap (λ (o : Option ℕ). opened o c.args.place spots) found ∙ spot_put c.args.place spots)

pub returns-in-None-clause-ok : goal.returns-in-None-clause-ok
returns-in-None-clause-ok c =
    let spots = c.args.spots.now.items in
    let found : None ≡ spot_insert_position c.args.place 0 spots = search rules in
    ap (λ (o : Option ℕ). opened o c.args.place spots) found ∙ spot_put c.args.place spots
