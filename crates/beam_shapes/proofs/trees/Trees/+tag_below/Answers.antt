use Rattle.std.proofs.Common.{◌-◌, ◌<◌, None, get_or, ap, ◌∙◌, arith}
use Rattle.beam_shapes.specs.declared.trees.Halves.{Halves}
use Rattle.beam_shapes.specs.Prelude.{halves_of, tags_of}
use Rattle.beam_shapes.proofs.Grown.{twice_half}
use Rattle.beam_shapes.proofs.Placed.{tag_left, tag_right, tag_leaf}
use Rattle.beam_shapes.proofs.trees.Trees.+tag_below.Goals as goal

pub returns-then-height-eq0 : goal.returns-then-height-eq0
returns-then-height-eq0 t c = c.tag.ensures ∙ tag_leaf c.args.self.now c.args.height c.args.tree c.args.at c.if-height-eq0.true c.requires.0

pub tag_below-requires-else-at-half : goal.tag_below-requires-else-at-half
tag_below-requires-else-at-half t c =
    let up : 0 < c.args.height = omega (arith, c.if-height-eq0.false) in
    let twice = twice_half c.args.height up in (
      omega (arith, c.decreases, up),
      (omega (arith, c.requires.0, c.pow-half.ensures, c.if-at-half.false, twice), omega (arith, c.requires.1)),
    )

pub returns-then-at-half : goal.returns-then-at-half
returns-then-at-half t c =
    let up : 0 < c.args.height = omega (arith, c.if-height-eq0.false) in
    c.tag_below.ensures
    ∙ (ap (λ (b : Halves). get_or (tags_of c.args.self.now (c.args.height - 1) b.left) c.args.at None) c.halves-both.ensures
    ∙ tag_left c.args.self.now c.args.height c.args.tree c.args.at up (omega (arith, c.if-at-half.true, c.pow-half.ensures)))

pub returns-else-at-half : goal.returns-else-at-half
returns-else-at-half t c =
    let up : 0 < c.args.height = omega (arith, c.if-height-eq0.false) in
    c.tag_below-else-at-half.ensures
    ∙ (ap (λ (b : Halves). get_or (tags_of c.args.self.now (c.args.height - 1) b.right) (c.args.at - c.pow-half.result) None) c.halves-both.ensures
    ∙ (ap (λ n. get_or (tags_of c.args.self.now (c.args.height - 1) (halves_of c.args.self.now.halves c.args.tree).right) (c.args.at - n) None) c.pow-half.ensures
    ∙ tag_right c.args.self.now c.args.height c.args.tree c.args.at up (omega (arith, c.if-at-half.false, c.pow-half.ensures))))
