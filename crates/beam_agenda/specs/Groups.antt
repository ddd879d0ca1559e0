-- Numbers in groups of 16.
use Rattle.std.specs.Prelude.{ℕ, zero, suc, ◌+◌, ◌/◌, Bool, nat_lt, List, [], ◌∷◌, length, take, drop}
use Rattle.std.specs.List.{count_by}

abbrev pub is_set : ℕ → Bool
is_set number = nat_lt 0 number

-- the first n groups of a list: how many numbers of each aren't 0
abbrev pub groups : ℕ → List ℕ → List ℕ
groups zero ns = []
groups (suc count) ns = count_by is_set (take 16 ns) ∷ groups count (drop 16 ns)

-- all groups of a list; the last one has fewer than 16 numbers where 16 doesn't divide their count
abbrev pub all_groups : List ℕ → List ℕ
all_groups ns = groups ((length ns + 15) / 16) ns
