use Rattle.beam_bif.proofs.IntegerLemmas.{shift_is}
use Rattle.beam_bif.proofs.arithmetic.right_by.Goals as goal

pub returns : goal.returns
returns c = shift_is _ _ _ _ c.ranges.m c.requires c.min.ensures c.limited.ensures
