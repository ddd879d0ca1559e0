-- Blocks of bytes, one after another: each has its content after a header of 16 bytes. (This node's own.)
use Rattle.std.specs.Prelude.{◌≡◌, ◌≢◌, ◌<◌, ◌^◌, ◌+◌, ◌-◌, ◌%◌, ◌==◌, ◌&&◌, ℕ, zero, suc, nat_lt, not, if◌then◌else◌, List, [], ◌∷◌, ◌++◌, length, get_or, take, drop}
use Rattle.std.specs.List.{AllByRecursion}
use Rattle.std.specs.Int.{w32, to_be_bytes, from_be_bytes}
use Rattle.beam_blocks.specs.declared.sums.FletcherSums.{FletcherSums}

-- ---- which bytes are blocks

-- Fletcher's sums, in 32 bits each, with one more byte: the first one adds the byte, and then the second one adds the first
unfoldable pub with_byte : FletcherSums → ℕ → FletcherSums
with_byte sums byte =
    let first = (sums.first + byte) % 2 ^ 32 in
    record { first = first; second = (sums.second + first) % 2 ^ 32 }

abbrev pub with_bytes : FletcherSums → List ℕ → FletcherSums
with_bytes sums [] = sums
with_bytes sums (byte ∷ rest) = with_bytes (with_byte sums byte) rest

-- the sums of no bytes
abbrev pub initial_sums : FletcherSums
initial_sums = record { first = 1; second = 0 }

abbrev pub sums_of : List ℕ → FletcherSums
sums_of bytes = with_bytes initial_sums bytes

-- a number in four bytes, the highest first, and bytes after it
abbrev pub number_before : ℕ → List ℕ → List ℕ
number_before n rest = to_be_bytes w32 n ++ rest

-- what a count lacks of the greatest number of four bytes
abbrev pub mirror_of : ℕ → ℕ
mirror_of count = 2 ^ 32 - 1 - count

-- the header, which is how many bytes the content has, the mirror of this count, and the content's sums; and then the content
unfoldable pub block : List ℕ → List ℕ
block content =
    number_before (length content) (number_before (mirror_of (length content))
    (number_before (sums_of content).first (number_before (sums_of content).second content)))

-- the blocks of these contents, one after another
abbrev pub blocks_of : List (List ℕ) → List ℕ
blocks_of [] = []
blocks_of (content ∷ rest) = block content ++ blocks_of rest

-- the content has a block: four bytes can say how many bytes it has
abbrev pub IsShort : List ℕ → Type 0
IsShort content = length content < 2 ^ 32

abbrev pub AreShort : List (List ℕ) → Type 0
AreShort contents = AllByRecursion IsShort contents

-- each of these numbers is a byte
abbrev pub AreBytes : List ℕ → Type 0
AreBytes bytes = (i : ℕ) → get_or bytes i 0 < 256

-- ---- reading them from the front

-- the front of bytes: there are none; they end before a header does, or before the content that a header counts; they begin with no
-- block; or with a block of this content, after which these bytes stand
pub data FirstBlock : Type 0 where
  no_bytes : FirstBlock
  cut_block : FirstBlock
  bad_block : FirstBlock
  one_block : List ℕ → List ℕ → FirstBlock

-- the number in the four bytes at a place
abbrev pub number_at : ℕ → List ℕ → ℕ
number_at at bytes = from_be_bytes w32 (take 4 (drop at bytes))

-- a content before other bytes, where it has these sums
abbrev pub with_sums : ℕ → ℕ → List ℕ → List ℕ → FirstBlock
with_sums first second content rest = if (sums_of content).first == first && (sums_of content).second == second then one_block content rest else bad_block

-- what follows a header
unfoldable pub after_header : ℕ → ℕ → ℕ → ℕ → List ℕ → FirstBlock
after_header count mirror first second rest =
    if not (count + mirror == 2 ^ 32 - 1) then bad_block
    else (if nat_lt (length rest) count then cut_block else with_sums first second (take count rest) (drop count rest))

unfoldable pub block_in : List ℕ → FirstBlock
block_in bytes =
    if length bytes == 0 then no_bytes
    else (if nat_lt (length bytes) 16 then cut_block
    else after_header (number_at 0 bytes) (number_at 4 bytes) (number_at 8 bytes) (number_at 12 bytes) (drop 16 bytes))

-- where the blocks of a file end: at its last byte, inside of a block, or before bytes that begin with no block
pub data BlocksEnd : Type 0 where
  between_blocks : BlocksEnd
  inside_block : BlocksEnd
  at_bad_block : BlocksEnd

-- the contents of the blocks at the front of a file, the bytes after them, and what these are
pub record Blocks : Type 0 where
  pub contents : List (List ℕ)
  pub rest : List ℕ
  pub end : BlocksEnd

abbrev pub no_blocks : List ℕ → BlocksEnd → Blocks
no_blocks bytes end = record { contents = []; rest = bytes; end = end }

abbrev pub with_content : List ℕ → Blocks → Blocks
with_content content blocks = record blocks { contents = content ∷ blocks.contents }

abbrev pub with_contents : List (List ℕ) → Blocks → Blocks
with_contents contents blocks = record blocks { contents = contents ++ blocks.contents }

abbrev pub blocks_by : (List ℕ → Blocks) → List ℕ → FirstBlock → Blocks
blocks_by blocks bytes no_bytes = no_blocks bytes between_blocks
blocks_by blocks bytes cut_block = no_blocks bytes inside_block
blocks_by blocks bytes bad_block = no_blocks bytes at_bad_block
blocks_by blocks bytes (one_block content rest) = with_content content (blocks rest)

-- the first n blocks
unfoldable pub blocks_within : ℕ → List ℕ → Blocks
blocks_within zero bytes = no_blocks bytes between_blocks
blocks_within (suc n) bytes = blocks_by (blocks_within n) bytes (block_in bytes)

-- all blocks: each takes 16 bytes or more, so there are fewer than bytes
abbrev pub blocks_in : List ℕ → Blocks
blocks_in bytes = blocks_within (length bytes) bytes

-- ---- files that are cut

-- the first of these contents were read, and no bad block was found
pub record IsBeginning (contents : List (List ℕ)) (blocks : Blocks) : Type 0 where
  pub count : ℕ
  pub first : blocks.contents ≡ take count contents
  pub sound : blocks.end ≢ at_bad_block
