-- The list above a list of numbers.
use Rattle.std.specs.Prelude.{◌≡◌, ◌≤◌, ◌<◌, ℕ, List, length}
use Rattle.beam_agenda.specs.declared.flags.Above.{Above}
use Rattle.beam_agenda.specs.declared.flags.Above.TheVariants.{Top, Level}
use Rattle.beam_agenda.specs.Groups.{all_groups}

-- the list above is the list of the groups; a list of one group has no list above
abbrev pub LevelsAgree : List ℕ → Above → Type 0
LevelsAgree ns Top = length ns ≤ 16
LevelsAgree ns (Level above) = (16 < length ns) × (above.value ≡ all_groups ns)
