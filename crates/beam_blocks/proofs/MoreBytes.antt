-- More bytes after those that were read: by the tests of a header, a block and a bad block stay what they are.
use Rattle.std.proofs.Common.{◌≡◌, ℕ, ◌+◌, ◌-◌, ◌^◌, ◌≤◌, Bool, true, false, eqb, ltb, List, ◌++◌, length, take, drop, refl, sym, ap, subst, ◌∙◌, arith, length-drop, length-append, ltb-false, le-ltb}
use Rattle.std.proofs.lemmas.List.{take-append-le, drop-append-le}
use Rattle.std.specs.Int.{w32, from_be_bytes}
use Rattle.beam_blocks.specs.Blocks.{sums_of, FirstBlock, no_bytes, cut_block, bad_block, one_block, number_at, with_sums, after_header, block_in, between_blocks, inside_block, at_bad_block, no_blocks, with_content, blocks_by, blocks_in}
use Rattle.beam_blocks.proofs.RoundTrip.{header_at, blocks_step}

-- the front that was found, with more bytes after its block
abbrev with_more : List ℕ → FirstBlock → FirstBlock
with_more more no_bytes = no_bytes
with_more more cut_block = cut_block
with_more more bad_block = bad_block
with_more more (one_block content rest) = one_block content (rest ++ more)

-- a block, or a bad one
abbrev IsSure : FirstBlock → Type 0
IsSure no_bytes = ⊥
IsSure cut_block = ⊥
IsSure bad_block = Unit {0}
IsSure (one_block content rest) = Unit {0}

sums_stay : (c d : ℕ) (content rest more : List ℕ) (first second : Bool) → eqb (sums_of content).first c ≡ first → eqb (sums_of content).second d ≡ second
    → with_sums c d content (rest ++ more) ≡ with_more more (with_sums c d content rest)
sums_stay c d content rest more true true e f = rw (e, f) refl
sums_stay c d content rest more true false e f = rw (e, f) refl
sums_stay c d content rest more false second e f = rw e refl

after_stays : (a b c d : ℕ) (rest more : List ℕ) (mirrored short : Bool) → eqb (a + b) (2 ^ 32 - 1) ≡ mirrored → ltb (length rest) a ≡ short
    → IsSure (after_header a b c d rest) → after_header a b c d (rest ++ more) ≡ with_more more (after_header a b c d rest)
unfolding after_header
after_stays a b c d rest more false short e f sure = rw e refl
after_stays a b c d rest more true true e f sure = let k : IsSure cut_block = rw (e, f) at sure in absurd k
after_stays a b c d rest more true false e f sure =
    let long : a ≤ length rest = ltb-false (length rest) a f in
    let longer : ltb (length (rest ++ more)) a ≡ false = le-ltb (length (rest ++ more)) a (omega (arith, length-append rest more)) in
    rw (e, f, longer, take-append-le a rest more long, drop-append-le a rest more long) (sums_stay c d (take a rest) (drop a rest) more _ _ refl refl)

number_stays : (at : ℕ) (bytes more : List ℕ) → at + 4 ≤ length bytes → number_at at (bytes ++ more) ≡ number_at at bytes
number_stays at bytes more within =
    ap (from_be_bytes w32) (ap (take 4) (drop-append-le at bytes more (omega arith)) ∙ take-append-le 4 (drop at bytes) more (omega (arith, length-drop at bytes)))

stays_by : (bytes more : List ℕ) (none short : Bool) → eqb (length bytes) 0 ≡ none → ltb (length bytes) 16 ≡ short → IsSure (block_in bytes)
    → block_in (bytes ++ more) ≡ with_more more (block_in bytes)
unfolding block_in
stays_by bytes more true short e f sure = let k : IsSure no_bytes = rw e at sure in absurd k
stays_by bytes more false true e f sure = let k : IsSure cut_block = rw (e, f) at sure in absurd k
stays_by bytes more false false e f sure =
    let long : 16 ≤ length bytes = ltb-false (length bytes) 16 f in
    let a = number_at 0 bytes in let b = number_at 4 bytes in let c = number_at 8 bytes in let d = number_at 12 bytes in
    let here : block_in bytes ≡ after_header a b c d (drop 16 bytes) = header_at bytes long in
    header_at (bytes ++ more) (omega (arith, length-append bytes more))
    ∙ (λ i. after_header (number_stays 0 bytes more (omega arith) i) (number_stays 4 bytes more (omega arith) i) (number_stays 8 bytes more (omega arith) i)
    (number_stays 12 bytes more (omega arith) i) (drop-append-le 16 bytes more long i))
    ∙ after_stays a b c d (drop 16 bytes) more _ _ refl refl (subst IsSure here sure)
    ∙ ap (with_more more) (sym here)

stays : (bytes more : List ℕ) (found : FirstBlock) → block_in bytes ≡ found → IsSure found → block_in (bytes ++ more) ≡ with_more more found
stays bytes more found is sure = stays_by bytes more _ _ refl refl (subst IsSure (sym is) sure) ∙ ap (with_more more) is

pub none_found : (bytes : List ℕ) → block_in bytes ≡ no_bytes → blocks_in bytes ≡ no_blocks bytes between_blocks
none_found bytes is = blocks_step bytes ∙ ap (blocks_by blocks_in bytes) is

pub cut_found : (bytes : List ℕ) → block_in bytes ≡ cut_block → blocks_in bytes ≡ no_blocks bytes inside_block
cut_found bytes is = blocks_step bytes ∙ ap (blocks_by blocks_in bytes) is

pub bad_found : (bytes more : List ℕ) → block_in bytes ≡ bad_block → blocks_in (bytes ++ more) ≡ no_blocks (bytes ++ more) at_bad_block
bad_found bytes more is = blocks_step (bytes ++ more) ∙ ap (blocks_by blocks_in (bytes ++ more)) (stays bytes more bad_block is tt)

pub one_found : (bytes more content rest : List ℕ) → block_in bytes ≡ one_block content rest → blocks_in (bytes ++ more) ≡ with_content content (blocks_in (rest ++ more))
one_found bytes more content rest is = blocks_step (bytes ++ more) ∙ ap (blocks_by blocks_in (bytes ++ more)) (stays bytes more (one_block content rest) is tt)
