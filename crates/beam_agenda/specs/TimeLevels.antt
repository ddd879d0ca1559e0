-- The list above a list of times.
use Rattle.std.specs.Prelude.{◌≡◌, ◌≤◌, ℕ, List, length, Option}
use Rattle.beam_agenda.specs.declared.times.Above.{Above}
use Rattle.beam_agenda.specs.declared.times.Above.TheVariants.{Top, Level}
use Rattle.beam_agenda.specs.Pairs.{pairs}

-- the list above is the list of the pairs; a list of one time has no list above
abbrev pub LevelsAgree : List (Option ℕ) → Above → Type 0
LevelsAgree ts Top = length ts ≤ 1
LevelsAgree ts (Level above) = (2 ≤ length ts) × (above.value ≡ pairs ts)
