use Rattle.std.proofs.Common.{ap, ◌∙◌}
use Rattle.beam_shapes.specs.Prelude.{ShapeState}
use Rattle.beam_shapes.proofs.Registers.{all_stay}
use Rattle.beam_shapes.proofs.known.KnownShapes.left.Goals as goal

pub invariant_of-self : goal.invariant_of-self
invariant_of-self c = (all_stay c.self.inside.trees c.left.new.trees c.left.ensures.grows c.self.inside.shapes.items c.self.invariant).0

pub returns-clause-known : goal.returns-clause-known
returns-clause-known c =
    (all_stay c.self.inside.trees c.left.new.trees c.left.ensures.grows c.self.inside.shapes.items c.self.invariant).1 ∙ ap (λ (s : ShapeState). s.known) c.self.view_is
