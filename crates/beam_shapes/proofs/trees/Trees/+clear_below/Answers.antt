use Rattle.std.proofs.Common.{◌-◌, ◌<◌, ◌++◌, None, replicate, drop, ap, sym, ◌∙◌, subst, arith}
use Rattle.beam_shapes.specs.declared.trees.Halves.{Halves}
use Rattle.beam_shapes.specs.Prelude.{halves_of, tags_of, IsTree}
use Rattle.beam_shapes.proofs.Grown.{twice_half, tree_step, tree_none, grows_both}
use Rattle.beam_shapes.proofs.Placed.{clear_left, clear_right, clear_leaf, clear_none}
use Rattle.beam_shapes.proofs.trees.Trees.+clear_below.Goals as goal

pub returns-then-count-eq0-clause-cleared : goal.returns-then-count-eq0-clause-cleared
returns-then-count-eq0-clause-cleared t c = clear_none (tags_of c.args.self.now c.args.height c.args.tree) c.args.count c.if-count-eq0.true

pub returns-then-height-eq0-clause-tree : goal.returns-then-height-eq0-clause-tree
returns-then-height-eq0-clause-tree t c = tree_none c.args.self.now c.args.height

pub returns-then-height-eq0-clause-cleared : goal.returns-then-height-eq0-clause-cleared
returns-then-height-eq0-clause-cleared t c =
    clear_leaf c.args.self.now c.args.height c.args.tree c.args.count c.if-height-eq0.true c.if-count-eq0.false c.requires.count.0

pub clear_below-requires : goal.clear_below-requires
clear_below-requires t c =
    let up : 0 < c.args.height = omega (arith, c.if-height-eq0.false) in
    let parts = tree_step c.args.self.now c.args.height c.args.tree up c.requires.tree in (
      omega (arith, c.decreases, up),
      (
        (omega (arith, c.pow-half.ensures, c.if-count-half.true), omega (arith, c.requires.count.1)),
        subst (λ (b : Halves). IsTree c.args.self.now (c.args.height - 1) b.left) (sym c.halves-both.ensures) parts.1,
      ),
    )

pub clear_below-requires-else-count-half : goal.clear_below-requires-else-count-half
clear_below-requires-else-count-half t c =
    let up : 0 < c.args.height = omega (arith, c.if-height-eq0.false) in
    let twice = twice_half c.args.height up in
    let parts = tree_step c.args.self.now c.args.height c.args.tree up c.requires.tree in (
      omega (arith, c.decreases, up),
      (
        (omega (arith, c.requires.count.0, c.pow-half.ensures, c.if-count-half.false, twice), omega (arith, c.requires.count.1)),
        subst (λ (b : Halves). IsTree c.args.self.now (c.args.height - 1) b.right) (sym c.halves-both.ensures) parts.2,
      ),
    )

pub returns-in_ok-tree : goal.returns-in_ok-tree
returns-in_ok-tree t c =
    let old = c.args.self.now in let mid = c.clear_below.new.self in let new = c.join.new.self in let h = c.args.height in
    let up : 0 < h = omega (arith, c.if-height-eq0.false) in
    let one = c.in_ok-left.ensures.grows in let two = c.in_ok-tree.ensures.grows in
    let cleared = c.in_ok-left.ensures.cleared ∙ ap (λ (b : Halves). replicate c.args.count None ++ drop c.args.count (tags_of old (h - 1) b.left)) c.halves-both.ensures in
    let is = c.in_ok-tree.ensures.tree.0 ∙ ap (λ (b : Halves). record { left = c.in_ok-left.left; right = b.right }) c.halves-both.ensures in
    let all = clear_left old mid new h c.args.tree c.in_ok-tree.tree up c.requires.tree one two c.in_ok-left.left c.args.count (omega (arith, c.if-count-half.true, c.pow-half.ensures)) c.in_ok-left.ensures.tree cleared is c.in_ok-tree.ensures.tree.1 in record {
      grows = grows_both old mid new one two;
      tree = all.0;
      cleared = all.1;
    }

pub returns-in_ok-tree-2 : goal.returns-in_ok-tree-2
returns-in_ok-tree-2 t c =
    let old = c.args.self.now in let mid = c.clear_below-else-count-half.new.self in let new = c.join-else-count-half.new.self in let h = c.args.height in
    let up : 0 < h = omega (arith, c.if-height-eq0.false) in
    let one = c.in_ok-right.ensures.grows in let two = c.in_ok-tree-2.ensures.grows in
    let half = c.pow-half.ensures in
    let cleared = c.in_ok-right.ensures.cleared
    ∙ (ap (λ (b : Halves). replicate (c.args.count - c.pow-half.result) None ++ drop (c.args.count - c.pow-half.result) (tags_of old (h - 1) b.right)) c.halves-both.ensures
    ∙ ap (λ n. replicate (c.args.count - n) None ++ drop (c.args.count - n) (tags_of old (h - 1) (halves_of old.halves c.args.tree).right)) half) in
    let all = clear_right old mid new h c.args.tree c.in_ok-tree-2.tree up c.requires.tree one two c.in_ok-right.right c.args.count (omega (arith, c.if-count-half.false, half)) c.in_ok-right.ensures.tree cleared c.in_ok-tree-2.ensures.tree.0 c.in_ok-tree-2.ensures.tree.1 in record {
      grows = grows_both old mid new one two;
      tree = all.0;
      cleared = all.1;
    }
