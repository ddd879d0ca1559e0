use Rattle.beam_shapes.proofs.trees.Trees.+clear_below.Given as goal

abbrev pub decreases-clear_below : goal.decreases-clear_below
decreases-clear_below l = l.height
