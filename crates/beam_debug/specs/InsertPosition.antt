-- Where an element goes in a rising list.
use Rattle.std.specs.Prelude.{ℕ, ◌+◌, ◌==◌, nat_lt, if◌then◌else◌, List, [], ◌∷◌, Option, Some, None}
use Rattle.beam_machine.specs.Prelude.{comes_before}
use Rattle.beam_model.specs.Prelude.{Place, is_same_place}

-- the position at which a pid is to be inserted into a rising list that begins at position `at`; none if the pid is there
abbrev pub insert_position : ℕ → ℕ → List ℕ → Option ℕ
insert_position n at [] = Some at
insert_position n at (m ∷ rest) = if n == m then None else if nat_lt n m then Some at else insert_position n (at + 1) rest

-- the position at which a place is to be inserted into a rising list; none if the place is there
abbrev pub spot_insert_position : Place → ℕ → List Place → Option ℕ
spot_insert_position place at [] = Some at
spot_insert_position place at (spot ∷ rest) =
    if is_same_place place spot then None else if comes_before place spot then Some at else spot_insert_position place (at + 1) rest
