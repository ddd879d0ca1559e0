-- Files of blocks, for contracts.
use Rattle.std.specs.Prelude.{◌≡◌, ℕ, ◌+◌, ◌⊎◌, List, [], ◌∷◌, ◌++◌, length, take, drop, Option, option_map}
use Rattle.beam_blocks.specs.Blocks.{AreShort, block, block_in, blocks_in, blocks_of, one_block}

-- the contents of the blocks up to a place, and the bytes from there on
pub record KnownBlocks : Type 0 where
  pub contents : List (List ℕ)
  pub rest : List ℕ

abbrev pub known_blocks : ℕ → List ℕ → KnownBlocks
known_blocks end bytes = record { contents = (blocks_in (take end bytes)).contents; rest = drop end bytes }

-- whole blocks stand up to a place
pub record HasBlocks (end : ℕ) (bytes : List ℕ) : Type 0 where
  pub contents : List (List ℕ)
  pub rest : List ℕ
  pub short : AreShort contents
  pub stands : bytes ≡ blocks_of contents ++ rest
  pub ends : end ≡ length (blocks_of contents)

-- a file of blocks
pub record StoredBlocks : Type 0 where
  pub known : Option KnownBlocks  -- its blocks and the bytes behind them, if its device tells its bytes
  pub end : ℕ  -- where the last of the blocks ends
  pub failures : ℕ  -- how many calls of its device failed

abbrev pub contents_of : KnownBlocks → List (List ℕ)
contents_of known = known.contents

-- all bytes of the file
abbrev pub all_bytes : KnownBlocks → List ℕ
all_bytes known = blocks_of known.contents ++ known.rest

-- other bytes behind the same blocks
abbrev pub with_rest : List ℕ → KnownBlocks → KnownBlocks
with_rest rest known = record known { rest = rest }

-- one block more, and nothing after it
abbrev pub with_block : List ℕ → KnownBlocks → KnownBlocks
with_block content known = record { contents = known.contents ++ content ∷ []; rest = [] }

-- behind the same blocks stands what stood there, or a beginning of that block
abbrev pub IsKept : Option KnownBlocks → List ℕ → Option KnownBlocks → Type 0
IsKept old content new = (new ≡ old) ⊎ ((begun left : List ℕ) × (begun ++ left ≡ block content) × (new ≡ option_map (with_rest begun) old))

-- ---- files that are read

-- a reader of a file of blocks
pub record BlocksRead : Type 0 where
  pub known : Option KnownBlocks  -- the blocks that were read and the bytes behind them, if its device tells its bytes
  pub end : ℕ  -- where the last of these blocks ends
  pub content : List ℕ  -- the content of the block that was read last
  pub failures : ℕ  -- how many calls of its device failed

-- the block behind those that were read has that content
abbrev pub IsNext : List ℕ → KnownBlocks → Type 0
IsNext content known = block_in known.rest ≡ one_block content (drop (16 + length content) known.rest)

-- that block was read too
abbrev pub with_next : List ℕ → KnownBlocks → KnownBlocks
with_next content known = record { contents = known.contents ++ content ∷ []; rest = drop (16 + length content) known.rest }
