-- The list above a list of numbers is shorter.
use Rattle.std.specs.Prelude.{◌≡◌, ◌≤◌, ◌+◌, ◌/◌, ℕ, zero, suc, max, List, length, drop, refl}
use Rattle.std.proofs.Common.{ap, arith}
use Rattle.beam_agenda.specs.declared.flags.Above.{Above}
use Rattle.beam_agenda.specs.declared.flags.Above.TheVariants.{Top, Level}
use Rattle.beam_agenda.specs.declared.flags.Flags.TheDeep.{deep-Above}
use Rattle.beam_agenda.specs.FlagLevels.{LevelsAgree}
use Rattle.beam_agenda.specs.Groups.{groups}

pub length-groups : (k : ℕ) (ns : List ℕ) → length (groups k ns) ≡ k
length-groups zero ns = refl
length-groups (suc k) ns = ap suc (length-groups k (drop 16 ns))

pub shorter : (ns : List ℕ) (above : Above) → LevelsAgree ns above → max (deep-Above above) 0 ≤ length ns
shorter ns Top h = omega arith
shorter ns (Level above) h = omega (arith, h.0, ap length h.1, length-groups ((length ns + 15) / 16) ns)
