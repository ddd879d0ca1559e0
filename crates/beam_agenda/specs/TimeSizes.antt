-- The list above a list of times is shorter.
use Rattle.std.specs.Prelude.{◌≤◌, ◌*◌, ◌+◌, ℕ, max, List, [], ◌∷◌, length, Option}
use Rattle.std.proofs.Common.{ap, arith}
use Rattle.beam_agenda.specs.declared.times.Above.{Above}
use Rattle.beam_agenda.specs.declared.times.Above.TheVariants.{Top, Level}
use Rattle.beam_agenda.specs.declared.times.Times.TheDeep.{deep-Above}
use Rattle.beam_agenda.specs.Pairs.{pairs}
use Rattle.beam_agenda.specs.TimeLevels.{LevelsAgree}

pub length-pairs : (ts : List (Option ℕ)) → 2 * length (pairs ts) ≤ length ts + 1
length-pairs [] = omega arith
length-pairs (a ∷ []) = omega arith
length-pairs (a ∷ b ∷ rest) = omega (arith, length-pairs rest)

pub shorter : (ts : List (Option ℕ)) (above : Above) → LevelsAgree ts above → max (deep-Above above) 0 ≤ length ts
shorter ts Top h = omega arith
shorter ts (Level above) h = omega (arith, h.0, ap length h.1, length-pairs ts)
