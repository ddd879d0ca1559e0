use Rattle.std.proofs.Common.{arith}
use Rattle.beam_etf.proofs.Little.{too_many}
use Rattle.beam_etf.proofs.leaf.magnitude.Goals as goal

pub returns-then-value : goal.returns-then-value
returns-then-value c = too_many c.args.digits.now c.loop-i.i c.loop-i.value (omega arith) c.loop-i.invariant (omega arith)
