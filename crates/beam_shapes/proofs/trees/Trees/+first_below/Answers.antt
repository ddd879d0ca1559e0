use Rattle.std.proofs.Common.{◌≢◌, ◌-◌, ◌<◌, ap, sym, ◌∙◌, subst, arith}
use Rattle.beam_shapes.specs.declared.trees.Halves.{Halves}
use Rattle.beam_model.specs.Prelude.{first_in}
use Rattle.beam_shapes.specs.Prelude.{Parts, halves_of, tags_of, IsTree, IsTidy}
use Rattle.beam_shapes.proofs.Grown.{tree_step}
use Rattle.beam_shapes.proofs.Firsts.{first_none, first_leaf, first_left, first_right}
use Rattle.beam_shapes.proofs.trees.Trees.+first_below.Goals as goal

pub returns-then-tree-eq0 : goal.returns-then-tree-eq0
returns-then-tree-eq0 t c = first_none c.args.self.now c.args.height c.args.tree c.if-tree-eq0.true

pub returns-then-height-eq0 : goal.returns-then-height-eq0
returns-then-height-eq0 t c = c.tag.ensures ∙ first_leaf c.args.self.now c.args.height c.args.tree c.if-height-eq0.true

pub first_below-requires : goal.first_below-requires
first_below-requires t c =
    let up : 0 < c.args.height = omega (arith, c.if-height-eq0.false) in
    let parts = tree_step c.args.self.now c.args.height c.args.tree up c.requires.tree in (
      omega (arith, c.decreases, up),
      subst (λ (b : Halves). IsTree c.args.self.now (c.args.height - 1) b.right) (sym c.halves-both.ensures) parts.2,
    )

pub first_below-requires-else-both-eq0 : goal.first_below-requires-else-both-eq0
first_below-requires-else-both-eq0 t c =
    let up : 0 < c.args.height = omega (arith, c.if-height-eq0.false) in
    let parts = tree_step c.args.self.now c.args.height c.args.tree up c.requires.tree in (
      omega (arith, c.decreases, up),
      subst (λ (b : Halves). IsTree c.args.self.now (c.args.height - 1) b.left) (sym c.halves-both.ensures) parts.1,
    )

pub returns-then-both-eq0 : goal.returns-then-both-eq0
returns-then-both-eq0 t c =
    let up : 0 < c.args.height = omega (arith, c.if-height-eq0.false) in
    let none = sym (ap (λ (b : Halves). b.left) c.halves-both.ensures) ∙ c.if-both-eq0.true in
    c.first_below.ensures
    ∙ (ap (λ (b : Halves). first_in (tags_of c.args.self.now (c.args.height - 1) b.right)) c.halves-both.ensures
    ∙ first_right c.args.self.now c.args.height c.args.tree up none)

pub returns-else-both-eq0 : goal.returns-else-both-eq0
returns-else-both-eq0 t c =
    let up : 0 < c.args.height = omega (arith, c.if-height-eq0.false) in
    let some : (halves_of c.args.self.now.halves c.args.tree).left ≢ 0 = λ e. c.if-both-eq0.false (ap (λ (b : Halves). b.left) c.halves-both.ensures ∙ e) in
    let tidy : IsTidy c.args.self.now = subst (λ (p : Parts). IsTidy p) c.self.view_is c.self.invariant in
    c.first_below-else-both-eq0.ensures
    ∙ (ap (λ (b : Halves). first_in (tags_of c.args.self.now (c.args.height - 1) b.left)) c.halves-both.ensures
    ∙ first_left c.args.self.now c.args.height c.args.tree up tidy c.requires.tree some)
