use Rattle.std.proofs.Common.{◌-◌, ◌<◌, set, ap, sym, ◌∙◌, subst, arith}
use Rattle.beam_shapes.specs.declared.trees.Halves.{Halves}
use Rattle.beam_shapes.specs.Prelude.{halves_of, tags_of, IsTree}
use Rattle.beam_shapes.proofs.Grown.{twice_half, tree_step, grows_both}
use Rattle.beam_shapes.proofs.Placed.{put_left, put_right, put_leaf}
use Rattle.beam_shapes.proofs.trees.Trees.+put_below.Goals as goal

pub returns-then-height-eq0-clause-tree : goal.returns-then-height-eq0-clause-tree
returns-then-height-eq0-clause-tree t c =
    (put_leaf c.args.self.now c.leaf.new.self c.args.height c.args.tree c.in_ok-place.place c.args.at c.args.tag c.if-height-eq0.true c.requires.at.0 c.in_ok-place.ensures.tree.0 c.in_ok-place.ensures.tree.1).0

pub returns-then-height-eq0-clause-put : goal.returns-then-height-eq0-clause-put
returns-then-height-eq0-clause-put t c =
    (put_leaf c.args.self.now c.leaf.new.self c.args.height c.args.tree c.in_ok-place.place c.args.at c.args.tag c.if-height-eq0.true c.requires.at.0 c.in_ok-place.ensures.tree.0 c.in_ok-place.ensures.tree.1).1

pub put_below-requires : goal.put_below-requires
put_below-requires t c =
    let up : 0 < c.args.height = omega (arith, c.if-height-eq0.false) in
    let parts = tree_step c.args.self.now c.args.height c.args.tree up c.requires.tree in (
      omega (arith, c.decreases, up),
      (
        (omega (arith, c.pow-half.ensures, c.if-at-half.true), omega (arith, c.requires.at.1)),
        subst (λ (b : Halves). IsTree c.args.self.now (c.args.height - 1) b.left) (sym c.halves-both.ensures) parts.1,
      ),
    )

pub put_below-requires-else-at-half : goal.put_below-requires-else-at-half
put_below-requires-else-at-half t c =
    let up : 0 < c.args.height = omega (arith, c.if-height-eq0.false) in
    let twice = twice_half c.args.height up in
    let parts = tree_step c.args.self.now c.args.height c.args.tree up c.requires.tree in (
      omega (arith, c.decreases, up),
      (
        (omega (arith, c.requires.at.0, c.pow-half.ensures, c.if-at-half.false, twice), omega (arith, c.requires.at.1)),
        subst (λ (b : Halves). IsTree c.args.self.now (c.args.height - 1) b.right) (sym c.halves-both.ensures) parts.2,
      ),
    )

pub returns-in_ok-tree : goal.returns-in_ok-tree
returns-in_ok-tree t c =
    let old = c.args.self.now in let mid = c.put_below.new.self in let new = c.join.new.self in let h = c.args.height in
    let up : 0 < h = omega (arith, c.if-height-eq0.false) in
    let one = c.in_ok-left.ensures.grows in let two = c.in_ok-tree.ensures.grows in
    let put = c.in_ok-left.ensures.put ∙ ap (λ (b : Halves). set (tags_of old (h - 1) b.left) c.args.at c.args.tag) c.halves-both.ensures in
    let is = c.in_ok-tree.ensures.tree.0 ∙ ap (λ (b : Halves). record { left = c.in_ok-left.left; right = b.right }) c.halves-both.ensures in
    let all = put_left old mid new h c.args.tree c.in_ok-tree.tree up c.requires.tree one two c.in_ok-left.left c.args.at c.args.tag (omega (arith, c.if-at-half.true, c.pow-half.ensures)) c.in_ok-left.ensures.tree put is c.in_ok-tree.ensures.tree.1 in record {
      grows = grows_both old mid new one two;
      tree = all.0;
      put = all.1;
    }

pub returns-in_ok-tree-2 : goal.returns-in_ok-tree-2
returns-in_ok-tree-2 t c =
    let old = c.args.self.now in let mid = c.put_below-else-at-half.new.self in let new = c.join-else-at-half.new.self in let h = c.args.height in
    let up : 0 < h = omega (arith, c.if-height-eq0.false) in
    let one = c.in_ok-right.ensures.grows in let two = c.in_ok-tree-2.ensures.grows in
    let half = c.pow-half.ensures in
    let put = c.in_ok-right.ensures.put
    ∙ (ap (λ (b : Halves). set (tags_of old (h - 1) b.right) (c.args.at - c.pow-half.result) c.args.tag) c.halves-both.ensures
    ∙ ap (λ n. set (tags_of old (h - 1) (halves_of old.halves c.args.tree).right) (c.args.at - n) c.args.tag) half) in
    let is = c.in_ok-tree-2.ensures.tree.0 ∙ ap (λ (b : Halves). record { left = b.left; right = c.in_ok-right.right }) c.halves-both.ensures in
    let all = put_right old mid new h c.args.tree c.in_ok-tree-2.tree up c.requires.tree one two c.in_ok-right.right c.args.at c.args.tag (omega (arith, c.if-at-half.false, half)) c.in_ok-right.ensures.tree put is c.in_ok-tree-2.ensures.tree.1 in record {
      grows = grows_both old mid new one two;
      tree = all.0;
      put = all.1;
    }
