-- Where each instruction begins, kept in groups of 16.
use Rattle.std.specs.Prelude.{◌≡◌, ℕ, ◌+◌, ◌/◌, ◌^◌, ◌<◌, nat_lt, if◌then◌else◌, List, length, map, slice_index_or, unwrap_or}
use Rattle.std.specs.List.{range_with_len, All}
use Rattle.std.specs.Ordering.{nat_cmp}
use Rattle.std.specs.BTreeMap.{BTreeMap, get}

-- where the instruction of a position begins
abbrev pub start_at : List ℕ → List ℕ → BTreeMap ℕ ℕ → ℕ → ℕ
start_at bases offsets far at =
    let offset = slice_index_or offsets at 255 in
    if nat_lt offset 255 then slice_index_or bases (at / 16) 0 + offset else unwrap_or (get nat_cmp far at) 0

-- where each instruction begins
unfoldable pub starts_of : List ℕ → List ℕ → BTreeMap ℕ ℕ → List ℕ
starts_of bases offsets far = map (start_at bases offsets far) (range_with_len 0 (length offsets))

pub record AreGrouped (bases offsets : List ℕ) (far : BTreeMap ℕ ℕ) : Type 0 where
  -- each group, full or not, has a base
  pub based : length bases ≡ (length offsets + 15) / 16
  pub fit : All (λ start. start < 2 ^ 32) (starts_of bases offsets far)
