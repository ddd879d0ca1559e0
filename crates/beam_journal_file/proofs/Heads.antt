-- A device whose file has one block.
use Rattle.std.proofs.Common.{◌≡◌, ℕ, List, [], ◌∷◌, Option, Some, None, option_map, refl, ap, ◌∙◌, append-nil}
use Rattle.beam_blocks.specs.Blocks.{block}
use Rattle.beam_block_file.specs.StoredBlocks.{all_bytes, with_next}

pub one_block : (told : Option (List ℕ)) (content head : List ℕ) → content ≡ head
    → option_map all_bytes (option_map (λ bytes. record { contents = content ∷ []; rest = [] }) told) ≡ option_map (λ bytes. block head) told
one_block None content head same = refl
one_block (Some b) content head same =
    ap (λ bytes. Some bytes) (append-nil _ ∙ (append-nil (block content) ∙ ap block same))

pub read_first : (told : Option (List ℕ)) (content : List ℕ)
    → option_map (with_next content) (option_map (λ bytes. record { contents = []; rest = bytes }) told) ≡ option_map (λ bytes. with_next content (record { contents = []; rest = bytes })) told
read_first None content = refl
read_first (Some bytes) content = refl
