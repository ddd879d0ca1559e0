use Rattle.std.proofs.Common.{◌≡◌, drop}
use Rattle.beam_model.specs.Prelude.{little}
use Rattle.beam_etf.proofs.leaf.magnitude.Given as goal

-- the highest bytes so far
abbrev pub invariant-loop-i : goal.invariant-loop-i
invariant-loop-i l = l.value ≡ little (drop l.i l.digits)
