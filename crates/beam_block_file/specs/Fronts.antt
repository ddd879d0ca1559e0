-- What stands at the front of bytes that may be the end of a file.
use Rattle.std.specs.Prelude.{◌≡◌, ◌≤◌, ◌++◌, ℕ, ◌+◌, ◌-◌, ◌^◌, ◌==◌, if◌then◌else◌, nat_lt, Bool, List, length}
use Rattle.beam_blocks.specs.Blocks.{FirstBlock, no_bytes, cut_block, bad_block, one_block, IsShort, block, block_in, number_at}
use Rattle.beam_block_file.specs.declared.front.Front.{Front}
use Rattle.beam_block_file.specs.declared.front.Front.TheVariants.{Nothing, Cut, Bad, Block}

-- how many bytes a bad block takes: those that it counts, where the mirror agrees with the count, and else 4,096
abbrev pub bad_size : List ℕ → ℕ
bad_size bytes = if number_at 0 bytes + number_at 4 bytes == 2 ^ 32 - 1 then 16 + number_at 0 bytes else 4096

-- the file goes on behind a bad block
abbrev pub goes_on : List ℕ → Bool
goes_on bytes = nat_lt (bad_size bytes) (length bytes)

-- a bad block is the torn end of the file, unless the file goes on after it
abbrev pub front_by : List ℕ → FirstBlock → Front
front_by bytes no_bytes = Nothing
front_by bytes cut_block = Cut
front_by bytes bad_block = if goes_on bytes then Bad else Cut
front_by bytes (one_block content rest) = Block (length content)

-- no bytes, a torn end, a bad block, or a block with how many bytes its content has
unfoldable pub front_in : List ℕ → Front
front_in bytes = front_by bytes (block_in bytes)

-- ---- for the proofs of the functions that find fronts

abbrev pub IfBlock : Front → (ℕ → Type 0) → Type 0
IfBlock (Block n) P = P n
IfBlock f P = Unit {0}

-- the bytes begin with a block, whose content has n bytes
pub record IsFirst (n : ℕ) (bytes : List ℕ) : Type 0 where
  pub content : List ℕ
  pub rest : List ℕ
  pub size : length content ≡ n
  pub short : IsShort content
  pub stands : bytes ≡ block content ++ rest
  pub fits : 16 + n ≤ length bytes

-- the front is neither a block nor bad: it may be something else, if more bytes follow
abbrev pub IsUnsettled : Front → Type 0
IsUnsettled Nothing = Unit {0}
IsUnsettled Cut = Unit {0}
IsUnsettled Bad = ⊥
IsUnsettled (Block n) = ⊥
