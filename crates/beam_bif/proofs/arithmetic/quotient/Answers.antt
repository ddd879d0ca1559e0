use Rattle.beam_bif.proofs.IntegerLemmas.{quotient_is}
use Rattle.beam_bif.proofs.arithmetic.quotient.Goals as goal

pub returns : goal.returns
returns c = quotient_is _ _ _ c.ranges.m c.ranges.n c.requires c.if-n-eq0.false c.limited.ensures
