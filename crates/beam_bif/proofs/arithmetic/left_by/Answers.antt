use Rattle.beam_bif.proofs.IntegerLemmas.{limited_far}
use Rattle.beam_bif.proofs.arithmetic.left_by.Goals as goal

pub returns-else-places-lt60 : goal.returns-else-places-lt60
returns-else-places-lt60 c = limited_far _ _ c.if-m-eq0.false c.if-places-lt60.false
