-- Whether two codes have the same instances, by their numbers.
use Rattle.std.specs.Prelude.{◌&&◌, nat_eq, Bool}
use Rattle.std.specs.Cmp.Lexicographic.{pointwise}
use Rattle.std.specs.Option.{option_eq}
use Rattle.beam_machine.specs.Prelude.{Code, Versions}
use Rattle.beam_model.specs.Prelude.{same_text}
use Rattle.beam_codesrv.specs.Homes.{number_of}

-- two modules have the same name, and current and old instances of the same numbers, or none where the other has none
abbrev pub same_versions : Versions → Versions → Bool
same_versions v w =
    same_text v.name w.name && (option_eq nat_eq (number_of v.current) (number_of w.current) && option_eq nat_eq (number_of v.old) (number_of w.old))

-- two codes have the same modules in the same order, each with instances of the same numbers
abbrev pub same_numbers : Code → Code → Bool
same_numbers = pointwise same_versions
