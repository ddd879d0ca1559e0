use Rattle.beam_shapes.proofs.trees.Trees.+tag_below.Given as goal

abbrev pub decreases-tag_below : goal.decreases-tag_below
decreases-tag_below l = l.height
