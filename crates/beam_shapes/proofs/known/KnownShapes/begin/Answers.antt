use Rattle.std.proofs.Common.{◌≡◌, ◌<◌, true, Option, Some, None, subst, sym, arith, refl, option_map, true≢false}
use Rattle.beam_model.specs.Prelude.{Assignment, bare, sized, any, is_bare, may_have, Shape}
use Rattle.beam_shapes.specs.Prelude.{room_of, Rises, shown, Parts}
use Rattle.beam_shapes.specs.declared.shape.Shape.{Shape as Kept}
use Rattle.beam_shapes.specs.declared.shape.Shape.TheVariants as shape
use Rattle.beam_shapes.proofs.Put.{put_known}
use Rattle.beam_shapes.proofs.known.KnownShapes.begin.Goals as goal

bare_up : (o : Option Shape) → is_bare o ≡ true → may_have bare o ≡ true
bare_up None e = e
bare_up (Some bare) e = refl
bare_up (Some (sized y)) e = e
bare_up (Some any) e = refl

pub returns-clause-begin : goal.returns-clause-begin
returns-clause-begin c =
    let p = c.self.inside.trees in let before = c.index.result.now in
    put_known p c.self.inside.shapes.items c.self.inside.waiting.items c.args.self.now c.self.view_is
    (λ (q : Parts) (a : Assignment). is_bare (a c.args.place) ≡ true)
    c.args.place before shape.Bare c.requires c.index.ensures
    (subst (λ (o : Option Kept). 1 < room_of (option_map (shown p) o)) (sym c.in-None.is) (omega arith))
    (subst (λ (o : Option Kept). Rises (option_map (shown p) o) (Some bare)) (sym c.in-None.is) (λ s may. absurd (true≢false (sym may))))
    (λ a under h. bare_up (a c.args.place) h)
    c.push.new.self.items c.in-Ok.ensures.items
