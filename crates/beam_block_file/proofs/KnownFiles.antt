-- Files of blocks: the contents are those of the blocks at the front, and a block that is added is one more.
use Rattle.std.proofs.Common.{◌≡◌, ℕ, ◌+◌, ◌⊎◌, inl, inr, List, [], ◌∷◌, ◌++◌, Option, Some, None, IfSome, option_map, length, take, drop, refl, sym, ap, subst, ◌∙◌, arith, length-append, append_assoc, append-nil, take_at, drop_at}
use Rattle.beam_blocks.specs.Blocks.{Blocks, block, blocks_of, IsShort, AreShort, blocks_in, blocks_within}
use Rattle.beam_blocks.proofs.RoundTrip.{written_again}
use Rattle.beam_block_file.specs.Shelves.{IsBegun, appended}
use Rattle.beam_block_file.specs.StoredBlocks.{HasBlocks, IsKept, KnownBlocks, all_bytes, contents_of, known_blocks, with_block, with_rest}

-- ---- blocks and what stands behind them

pub length_of_block : (content : List ℕ) → length (block content) ≡ 16 + length content
unfolding block
length_of_block content = omega arith

pub blocks-append : (first rest : List (List ℕ)) → blocks_of (first ++ rest) ≡ blocks_of first ++ blocks_of rest
blocks-append [] rest = refl
blocks-append (content ∷ first) rest = ap (λ (l : List ℕ). block content ++ l) (blocks-append first rest) ∙ sym (append_assoc (block content) (blocks_of first) (blocks_of rest))

pub short-append : (contents : List (List ℕ)) (content : List ℕ) → AreShort contents → IsShort content → AreShort (contents ++ content ∷ [])
short-append [] content all one = (one, tt)
short-append (first ∷ contents) content all one = (all.0, short-append contents content all.1 one)

pub take_blocks : (end : ℕ) (bytes : List ℕ) (h : HasBlocks end bytes) → take end bytes ≡ blocks_of h.contents
take_blocks end bytes h = ap (take end) h.stands ∙ take_at (blocks_of h.contents) h.rest end (sym h.ends)

pub drop_blocks : (end : ℕ) (bytes : List ℕ) (h : HasBlocks end bytes) → drop end bytes ≡ h.rest
drop_blocks end bytes h = ap (drop end) h.stands ∙ drop_at (blocks_of h.contents) h.rest end (sym h.ends)

contents_again : (contents : List (List ℕ)) → AreShort contents → (blocks_in (blocks_of contents)).contents ≡ contents
unfolding blocks_within
contents_again contents short =
    ap (λ (l : List ℕ). (blocks_in l).contents) (sym (append-nil (blocks_of contents)))
    ∙ ap (λ (read : Blocks). read.contents) (written_again contents [] short) ∙ append-nil contents

pub known_is : (end : ℕ) (bytes : List ℕ) (h : HasBlocks end bytes) → known_blocks end bytes ≡ record { contents = h.contents; rest = h.rest }
known_is end bytes h =
    let contents : (blocks_in (take end bytes)).contents ≡ h.contents =
    ap (λ (l : List ℕ). (blocks_in l).contents) (take_blocks end bytes h) ∙ contents_again h.contents h.short in
    let rest : drop end bytes ≡ h.rest = drop_blocks end bytes h in
    λ i. record { contents = contents i; rest = rest i }

-- ---- one block more

abbrev pub one_more : (end end' : ℕ) (bytes content rest : List ℕ) (h : HasBlocks end bytes) → h.rest ≡ block content ++ rest → IsShort content
    → end' ≡ end + length (block content) → HasBlocks end' bytes
one_more end end' bytes content rest h next short is = record {
  contents = h.contents ++ content ∷ [];
  rest = rest;
  short = short-append h.contents content h.short short;
  stands =
      h.stands ∙ ap (λ (l : List ℕ). blocks_of h.contents ++ l) next ∙ sym (append_assoc (blocks_of h.contents) (block content) rest)
      ∙ ap (λ (l : List ℕ). (blocks_of h.contents ++ l) ++ rest) (sym (append-nil (block content)))
      ∙ ap (λ (l : List ℕ). l ++ rest) (sym (blocks-append h.contents (content ∷ [])));
  ends =
      is ∙ ap (λ (n : ℕ). n + length (block content)) h.ends ∙ sym (length-append (blocks_of h.contents) (block content))
      ∙ ap (λ (l : List ℕ). length (blocks_of h.contents ++ l)) (sym (append-nil (block content)))
      ∙ ap length (sym (blocks-append h.contents (content ∷ [])));
}

-- behind the blocks stand these bytes, and nothing else
abbrev pub only_rest : (end : ℕ) (bytes rest : List ℕ) → HasBlocks end bytes → HasBlocks end (take end bytes ++ rest)
only_rest end bytes rest h = record {
  contents = h.contents;
  rest = rest;
  short = h.short;
  stands = ap (λ (l : List ℕ). l ++ rest) (take_blocks end bytes h);
  ends = h.ends;
}

-- ---- a block that is added

abbrev pub put_one : (end end' : ℕ) (bytes content : List ℕ) → HasBlocks end bytes → IsShort content → end' ≡ end + length (block content) → HasBlocks end' (take end bytes ++ block content)
put_one end end' bytes content h short is =
    one_more end end' (take end bytes ++ block content) content [] (only_rest end bytes (block content) h) (sym (append-nil (block content))) short is

pub put_has : (old : Option (List ℕ)) (end end' : ℕ) (content : List ℕ) → IfSome old (HasBlocks end) → IsShort content → end' ≡ end + length (block content)
    → IfSome (appended (option_map (take end) old) (block content)) (HasBlocks end')
put_has None end end' content h short is = tt
put_has (Some bytes) end end' content h short is = put_one end end' bytes content h short is

whole_one : (end end' : ℕ) (bytes content : List ℕ) → HasBlocks end bytes → end' ≡ end + length (block content) → length (take end bytes ++ block content) ≡ end'
whole_one end end' bytes content h is =
    length-append (take end bytes) (block content) ∙ ap (λ (l : List ℕ). length l + length (block content)) (take_blocks end bytes h)
    ∙ ap (λ (n : ℕ). n + length (block content)) (sym h.ends) ∙ sym is

pub put_whole : (old : Option (List ℕ)) (end end' : ℕ) (content : List ℕ) → IfSome old (HasBlocks end) → end' ≡ end + length (block content)
    → IfSome (appended (option_map (take end) old) (block content)) (λ b. length b ≡ end')
put_whole None end end' content h is = tt
put_whole (Some bytes) end end' content h is = whole_one end end' bytes content h is

known_one : (end end' : ℕ) (bytes content : List ℕ) (h : HasBlocks end bytes) → IsShort content → end' ≡ end + length (block content)
    → known_blocks end' (take end bytes ++ block content) ≡ with_block content (known_blocks end bytes)
known_one end end' bytes content h short is =
    known_is end' (take end bytes ++ block content) (put_one end end' bytes content h short is) ∙ ap (with_block content) (sym (known_is end bytes h))

pub put_known : (old : Option (List ℕ)) (end end' : ℕ) (content : List ℕ) → IfSome old (HasBlocks end) → IsShort content → end' ≡ end + length (block content)
    → option_map (known_blocks end') (appended (option_map (take end) old) (block content)) ≡ option_map (with_block content) (option_map (known_blocks end) old)
put_known None end end' content h short is = refl
put_known (Some bytes) end end' content h short is = ap Some (known_one end end' bytes content h short is)

-- ---- a block that was refused

-- the blocks stand, and nothing behind them but what stood there or a beginning of the block
pub IsLeft : ℕ → List ℕ → Option (List ℕ) → Option (List ℕ) → Type 0
IsLeft end bytes old new = (new ≡ old) ⊎ IsBegun (option_map (take end) old) bytes new

begun_has : (old : Option (List ℕ)) (end : ℕ) (begun : List ℕ) → IfSome old (HasBlocks end) → IfSome (appended (option_map (take end) old) begun) (HasBlocks end)
begun_has None end begun h = tt
begun_has (Some bytes) end begun h = only_rest end bytes begun h

begun_one : (end : ℕ) (bytes begun : List ℕ) → HasBlocks end bytes → known_blocks end (take end bytes ++ begun) ≡ with_rest begun (known_blocks end bytes)
begun_one end bytes begun h = known_is end (take end bytes ++ begun) (only_rest end bytes begun h) ∙ ap (with_rest begun) (sym (known_is end bytes h))

begun_known : (old : Option (List ℕ)) (end : ℕ) (begun : List ℕ) → IfSome old (HasBlocks end)
    → option_map (known_blocks end) (appended (option_map (take end) old) begun) ≡ option_map (with_rest begun) (option_map (known_blocks end) old)
begun_known None end begun h = refl
begun_known (Some bytes) end begun h = ap Some (begun_one end bytes begun h)

pub left_has : (old new : Option (List ℕ)) (end : ℕ) (bytes : List ℕ) → IfSome old (HasBlocks end) → (new ≡ old) ⊎ IsBegun (option_map (take end) old) bytes new → IfSome new (HasBlocks end)
left_has old new end bytes h (inl same) = subst (λ (o : Option (List ℕ)). IfSome o (HasBlocks end)) (sym same) h
left_has old new end bytes h (inr b) = subst (λ (o : Option (List ℕ)). IfSome o (HasBlocks end)) (sym b.told) (begun_has old end b.begun h)

pub left_kept : (old new : Option (List ℕ)) (end : ℕ) (content : List ℕ) → IfSome old (HasBlocks end) → (new ≡ old) ⊎ IsBegun (option_map (take end) old) (block content) new
    → IsKept (option_map (known_blocks end) old) content (option_map (known_blocks end) new)
left_kept old new end content h (inl same) = inl (ap (option_map (known_blocks end)) same)
left_kept old new end content h (inr b) = inr (b.begun, b.left, b.splits, ap (option_map (known_blocks end)) b.told ∙ begun_known old end b.begun h)

same_contents : (known : Option KnownBlocks) (rest : List ℕ) → option_map contents_of (option_map (with_rest rest) known) ≡ option_map contents_of known
same_contents None rest = refl
same_contents (Some known) rest = refl

pub kept_contents : (old new : Option KnownBlocks) (content : List ℕ) → IsKept old content new → option_map contents_of new ≡ option_map contents_of old
kept_contents old new content (inl same) = ap (option_map contents_of) same
kept_contents old new content (inr b) = ap (option_map contents_of) b.3 ∙ same_contents old b.0

-- ---- the file as a whole

all_one : (end : ℕ) (bytes : List ℕ) → HasBlocks end bytes → bytes ≡ all_bytes (known_blocks end bytes)
all_one end bytes h = h.stands ∙ ap all_bytes (sym (known_is end bytes h))

pub all_known : (told : Option (List ℕ)) (end : ℕ) → IfSome told (HasBlocks end) → told ≡ option_map all_bytes (option_map (known_blocks end) told)
all_known None end h = refl
all_known (Some bytes) end h = ap Some (all_one end bytes h)

short_one : (end : ℕ) (bytes : List ℕ) → HasBlocks end bytes → AreShort (known_blocks end bytes).contents
short_one end bytes h = subst (λ (known : KnownBlocks). AreShort known.contents) (sym (known_is end bytes h)) h.short

pub short_known : (told : Option (List ℕ)) (end : ℕ) → IfSome told (HasBlocks end) → IfSome (option_map (known_blocks end) told) (λ k. AreShort k.contents)
short_known None end h = tt
short_known (Some bytes) end h = short_one end bytes h

size_one : (end : ℕ) (bytes : List ℕ) → HasBlocks end bytes → end ≡ length (blocks_of (known_blocks end bytes).contents)
size_one end bytes h = h.ends ∙ ap (λ (known : KnownBlocks). length (blocks_of known.contents)) (sym (known_is end bytes h))

pub size_known : (told : Option (List ℕ)) (end : ℕ) → IfSome told (HasBlocks end) → IfSome (option_map (known_blocks end) told) (λ k. end ≡ length (blocks_of k.contents))
size_known None end h = tt
size_known (Some bytes) end h = size_one end bytes h

-- ---- a file without blocks

abbrev pub none_has : (bytes : List ℕ) → HasBlocks 0 bytes
none_has bytes = record { contents = []; rest = bytes; short = tt; stands = refl; ends = refl }

pub all_none : (told : Option (List ℕ)) → IfSome told (HasBlocks 0)
all_none None = tt
all_none (Some bytes) = none_has bytes

pub empty_whole : (told : Option (List ℕ)) → IfSome told (λ b. b ≡ []) → IfSome told (λ b. length b ≡ 0)
empty_whole None e = tt
empty_whole (Some bytes) e = ap length e

empty_one : (bytes head : List ℕ) → bytes ≡ [] → with_block head (known_blocks 0 bytes) ≡ record { contents = head ∷ []; rest = [] }
empty_one bytes head e = ap (with_block head) (known_is 0 bytes (none_has bytes))

pub empty_known : (told : Option (List ℕ)) (head : List ℕ) → IfSome told (λ b. b ≡ [])
    → option_map (with_block head) (option_map (known_blocks 0) told) ≡ option_map (λ (_ : List ℕ). record { contents = head ∷ []; rest = [] }) told
empty_known None head e = refl
empty_known (Some bytes) head e = ap Some (empty_one bytes head e)

-- ---- a file that is cut

cut_one : (end : ℕ) (bytes : List ℕ) → HasBlocks end bytes → HasBlocks end (take end bytes)
cut_one end bytes h = record {
  contents = h.contents;
  rest = [];
  short = h.short;
  stands = take_blocks end bytes h ∙ sym (append-nil (blocks_of h.contents));
  ends = h.ends;
}

pub cut_has : (told : Option (List ℕ)) (end : ℕ) → IfSome told (HasBlocks end) → IfSome (option_map (take end) told) (HasBlocks end)
cut_has None end h = tt
cut_has (Some bytes) end h = cut_one end bytes h

pub cut_whole : (told : Option (List ℕ)) (end : ℕ) → IfSome told (HasBlocks end) → IfSome (option_map (take end) told) (λ b. length b ≡ end)
cut_whole None end h = tt
cut_whole (Some bytes) end h = ap length (take_blocks end bytes h) ∙ sym h.ends

cut_known_one : (end : ℕ) (bytes : List ℕ) → HasBlocks end bytes → known_blocks end (take end bytes) ≡ with_rest [] (known_blocks end bytes)
unfolding cut_one
cut_known_one end bytes h = known_is end (take end bytes) (cut_one end bytes h) ∙ ap (with_rest []) (sym (known_is end bytes h))

pub cut_known : (told : Option (List ℕ)) (end : ℕ) → IfSome told (HasBlocks end)
    → option_map (known_blocks end) (option_map (take end) told) ≡ option_map (with_rest []) (option_map (known_blocks end) told)
cut_known None end h = refl
cut_known (Some bytes) end h = ap Some (cut_known_one end bytes h)

-- a file before its first block
new_one : (bytes : List ℕ) → known_blocks 0 bytes ≡ record { contents = []; rest = bytes }
new_one bytes = known_is 0 bytes (none_has bytes)

pub new_known : (told : Option (List ℕ)) → option_map (known_blocks 0) told ≡ option_map (λ (b : List ℕ). record { contents = []; rest = b }) told
new_known None = refl
new_known (Some bytes) = ap Some (new_one bytes)
