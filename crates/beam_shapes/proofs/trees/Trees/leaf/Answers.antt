use Rattle.std.proofs.Common.{sym, ◌∙◌}
use Rattle.beam_shapes.proofs.Tidy.{interned_grows, interned_part, grows_labels, as_before}
use Rattle.beam_shapes.proofs.trees.Trees.leaf.Goals as goal

pub returns-in_ok-tree-in-Some-clause-grows : goal.returns-in_ok-tree-in-Some-clause-grows
returns-in_ok-tree-in-Some-clause-grows c =
    grows_labels c.args.self.now c.self.inside.labels.keys c.intern_label.new.labels.keys c.self.inside.halves.keys c.self.view_is
    (interned_grows c.in-Some.label c.self.inside.labels.keys c.intern_label.new.labels.keys c.in_ok-tree-in-Some.tree c.in_ok-tree-in-Some.ensures.interned)

pub returns-in_ok-tree-in-Some-clause-tree : goal.returns-in_ok-tree-in-Some-clause-tree
returns-in_ok-tree-in-Some-clause-tree c =
    let keeps = c.in_ok-tree-in-Some.ensures.interned in (
      interned_part c.in-Some.label c.self.inside.labels.keys c.intern_label.new.labels.keys c.in_ok-tree-in-Some.tree keeps ∙ sym c.in-Some.is,
      keeps.2,
    )

pub returns-in_err-tree-in-Some-clause-grows : goal.returns-in_err-tree-in-Some-clause-grows
returns-in_err-tree-in-Some-clause-grows c =
    grows_labels c.args.self.now c.self.inside.labels.keys c.intern_label.new.labels.keys c.self.inside.halves.keys c.self.view_is
    (as_before c.self.inside.labels.keys c.intern_label.new.labels.keys c.in_err-tree-in-Some.ensures.err)
