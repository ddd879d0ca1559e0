use Rattle.std.proofs.Common.{◌≡◌, true, Option, Some, None, set, map, get_or, subst, option_map}
use Rattle.beam_model.specs.Prelude.{Assignment, may_have}
use Rattle.beam_shapes.specs.Prelude.{ShapeState, Joins, Unites, shown, Parts}
use Rattle.beam_shapes.specs.declared.shape.Shape.{Shape as Kept}
use Rattle.beam_shapes.proofs.Put.{put_known, put_there}
use Rattle.beam_shapes.proofs.known.KnownShapes.come.Goals as goal

pub returns-clause-come : goal.returns-clause-come
returns-clause-come c =
    let p = c.self.inside.trees in let before = c.index-before.result.now in
    let both : Joins (Some (shown p c.in-Some.after)) (option_map (shown p) before) (shown p c.args.shape) =
    subst (λ (o : Option Kept). Joins (option_map (shown p) o) (option_map (shown p) before) (shown p c.args.shape)) c.in-Some.is c.in_ok-after.ensures.joined in
    let up : Unites (Some (shown p c.in-Some.after)) (option_map (shown p) before) (shown p c.args.shape) =
    subst (λ (o : Option Kept). Unites (option_map (shown p) o) (option_map (shown p) before) (shown p c.args.shape)) c.in-Some.is c.in_ok-after.ensures.unites in
    put_known p c.self.inside.shapes.items c.self.inside.waiting.items c.args.self.now c.self.view_is
    (λ (q : Parts) (a : Assignment). may_have (shown q c.args.shape) (a c.args.place) ≡ true)
    c.args.place before c.in-Some.after c.requires.place c.index-before.ensures both.0 up.1
    (λ a under h. both.1 (a c.args.place) under h)
    c.push.new.self.items c.in-Ok.ensures.items

pub returns-clause-comes : goal.returns-clause-comes
returns-clause-comes c =
    let p = c.self.inside.trees in let before = c.index-before.result.now in let shapes = c.self.inside.shapes.items in
    let up : Unites (Some (shown p c.in-Some.after)) (option_map (shown p) before) (shown p c.args.shape) =
    subst (λ (o : Option Kept). Unites (option_map (shown p) o) (option_map (shown p) before) (shown p c.args.shape)) c.in-Some.is c.in_ok-after.ensures.unites in
    subst (λ (k : ShapeState). may_have (shown k.parts c.args.shape) (get_or (map (option_map (shown p)) (set shapes c.args.place (Some c.in-Some.after))) c.args.place None) ≡ true) c.self.view_is
    (put_there p shapes c.self.inside.waiting.items c.args.self.now c.self.view_is c.args.place c.in-Some.after (shown p c.args.shape) c.requires.place up.0)
