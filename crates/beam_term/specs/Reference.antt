-- What a reference is: a node, its creation, and one to five words of 32 bits.
-- Source: External Term Format, NEWER_REFERENCE_EXT.
use Rattle.std.specs.Prelude.{ℕ, ◌^◌, ◌≤◌, ◌<◌, List, length}
use Rattle.std.specs.List.{All}

-- what a reference is to contracts
pub record ReferenceValue : Type 0 where
  -- the UTF-8 bytes of the node's name
  pub node : List ℕ
  pub creation : ℕ
  pub words : List ℕ

-- one to five words of 32 bits
pub record AreReferenceWords (words : List ℕ) : Type 0 where
  pub some : 1 ≤ length words
  pub few : length words ≤ 5
  pub fit : All (λ word. word < 2 ^ 32) words
