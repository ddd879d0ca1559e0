-- What was written is read: the four numbers of a header are read back, and then by recursion on the blocks.
use Rattle.std.proofs.Common.{◌≡◌, ◌≢◌, ℕ, zero, suc, ◌+◌, ◌-◌, ◌^◌, ◌<◌, ◌≤◌, Bool, true, false, eqb, ltb, List, [], ◌∷◌, ◌++◌, length, take, drop, refl, sym, ap, ◌∙◌, arith, length-drop, length-append, append_assoc, ltb-false, le-ltb, eq-eqb, eqb-true, take_at, drop_at}
use Rattle.std.specs.Int.{w32, to_be_bytes, from_be_bytes}
use Rattle.std.proofs.lemmas.Nat.{from_be_bytes-to_be_bytes_4}
use Rattle.beam_blocks.specs.declared.sums.FletcherSums.{FletcherSums}
use Rattle.beam_blocks.specs.Blocks.{with_byte, with_bytes, initial_sums, sums_of, number_before, block, blocks_of, IsShort, AreShort, FirstBlock, no_bytes, cut_block, bad_block, one_block, number_at, with_sums, after_header, block_in, Blocks, with_content, with_contents, blocks_by, blocks_within, blocks_in}

-- ---- sums are numbers of four bytes

pub record Fit (s : FletcherSums) : Type 0 where
  pub first : s.first < 2 ^ 32
  pub second : s.second < 2 ^ 32

with_fit : (s : FletcherSums) (byte : ℕ) → Fit (with_byte s byte)
unfolding with_byte
with_fit s byte = record { first = omega arith; second = omega arith }

after_fit : (s : FletcherSums) (bytes : List ℕ) → Fit s → Fit (with_bytes s bytes)
after_fit s [] fit = fit
after_fit s (byte ∷ rest) fit = after_fit (with_byte s byte) rest (with_fit s byte)

pub sums_fit : (bytes : List ℕ) → Fit (sums_of bytes)
sums_fit bytes = after_fit initial_sums bytes (record { first = omega arith; second = omega arith })

-- ---- a header

-- four numbers and what follows
abbrev pub header : ℕ → ℕ → ℕ → ℕ → List ℕ → List ℕ
header a b c d rest = number_before a (number_before b (number_before c (number_before d rest)))

drop_before : (n : ℕ) (rest : List ℕ) → drop 4 (number_before n rest) ≡ rest
drop_before n rest = drop_at (to_be_bytes w32 n) rest 4 refl

take_before : (n : ℕ) (rest : List ℕ) → n < 2 ^ 32 → from_be_bytes w32 (take 4 (number_before n rest)) ≡ n
take_before n rest lt = ap (from_be_bytes w32) (take_at (to_be_bytes w32 n) rest 4 refl) ∙ from_be_bytes-to_be_bytes_4 n lt

first_is : (a b c d : ℕ) (rest : List ℕ) → a < 2 ^ 32 → number_at 0 (header a b c d rest) ≡ a
first_is a b c d rest lt = take_before a (number_before b (number_before c (number_before d rest))) lt

second_is : (a b c d : ℕ) (rest : List ℕ) → b < 2 ^ 32 → number_at 4 (header a b c d rest) ≡ b
second_is a b c d rest lt = take_before b (number_before c (number_before d rest)) lt

third_is : (a b c d : ℕ) (rest : List ℕ) → c < 2 ^ 32 → number_at 8 (header a b c d rest) ≡ c
third_is a b c d rest lt = take_before c (number_before d rest) lt

fourth_is : (a b c d : ℕ) (rest : List ℕ) → d < 2 ^ 32 → number_at 12 (header a b c d rest) ≡ d
fourth_is a b c d rest lt = take_before d rest lt

rest_is : (a b c d : ℕ) (rest : List ℕ) → drop 16 (header a b c d rest) ≡ rest
rest_is a b c d rest = refl

length_header : (a b c d : ℕ) (rest : List ℕ) → length (header a b c d rest) ≡ 16 + length rest
length_header a b c d rest = omega arith

pub is_other : (a b : ℕ) (test : Bool) → eqb a b ≡ test → a ≢ b → eqb a b ≡ false
is_other a b true e h = absurd (h (eqb-true a b e))
is_other a b false e h = e

-- sixteen bytes or more begin with a headerer
pub header_at : (bytes : List ℕ) → 16 ≤ length bytes
    → block_in bytes ≡ after_header (number_at 0 bytes) (number_at 4 bytes) (number_at 8 bytes) (number_at 12 bytes) (drop 16 bytes)
unfolding block_in
header_at bytes long = rw (is_other (length bytes) 0 _ refl (λ e. absurd (omega (arith, e, long))), le-ltb (length bytes) 16 long) refl

pub header_in : (a b c d : ℕ) (rest : List ℕ) → a < 2 ^ 32 → b < 2 ^ 32 → c < 2 ^ 32 → d < 2 ^ 32 → block_in (header a b c d rest) ≡ after_header a b c d rest
header_in a b c d rest la lb lc ld =
    header_at (header a b c d rest) (omega arith)
    ∙ rw (first_is a b c d rest la, second_is a b c d rest lb, third_is a b c d rest lc, fourth_is a b c d rest ld) refl

-- ---- a block

summed_again : (bytes rest : List ℕ) → with_sums (sums_of bytes).first (sums_of bytes).second bytes rest ≡ one_block bytes rest
summed_again bytes rest = rw (eq-eqb (sums_of bytes).first (sums_of bytes).first refl, eq-eqb (sums_of bytes).second (sums_of bytes).second refl) refl

again_after : (bytes more : List ℕ) → IsShort bytes
    → after_header (length bytes) (2 ^ 32 - 1 - length bytes) (sums_of bytes).first (sums_of bytes).second (bytes ++ more) ≡ one_block bytes more
unfolding after_header
again_after bytes more short =
    let adds : length bytes + (2 ^ 32 - 1 - length bytes) ≡ 2 ^ 32 - 1 = omega arith in
    let fits : length bytes ≤ length (bytes ++ more) = omega (arith, length-append bytes more) in
    rw (eq-eqb _ _ adds, le-ltb (length (bytes ++ more)) (length bytes) fits, take_at bytes more (length bytes) refl, drop_at bytes more (length bytes) refl) (summed_again bytes more)

pub spread : (bytes more : List ℕ) → block bytes ++ more ≡ header (length bytes) (2 ^ 32 - 1 - length bytes) (sums_of bytes).first (sums_of bytes).second (bytes ++ more)
unfolding block
spread bytes more = refl

pub block_again : (bytes more : List ℕ) → IsShort bytes → block_in (block bytes ++ more) ≡ one_block bytes more
block_again bytes more short =
    let fit = sums_fit bytes in
    ap block_in (spread bytes more)
    ∙ header_in (length bytes) (2 ^ 32 - 1 - length bytes) (sums_of bytes).first (sums_of bytes).second (bytes ++ more) short (omega arith) fit.first fit.second
    ∙ again_after bytes more short

-- ---- a log

rest_after : (a b c d : ℕ) (rest content left : List ℕ) (mirrored short low high : Bool) → eqb (a + b) (2 ^ 32 - 1) ≡ mirrored → ltb (length rest) a ≡ short
    → eqb (sums_of (take a rest)).first c ≡ low → eqb (sums_of (take a rest)).second d ≡ high → after_header a b c d rest ≡ one_block content left → length left ≤ length rest
unfolding after_header
rest_after a b c d rest content left false short low high e f g h is = let k : bad_block ≡ one_block content left = rw e at is in absurd cc
rest_after a b c d rest content left true true low high e f g h is = let k : cut_block ≡ one_block content left = rw (e, f) at is in absurd cc
rest_after a b c d rest content left true false false high e f g h is = let k : bad_block ≡ one_block content left = rw (e, f, g) at is in absurd cc
rest_after a b c d rest content left true false true false e f g h is = let k : bad_block ≡ one_block content left = rw (e, f, g, h) at is in absurd cc
rest_after a b c d rest content left true false true true e f g h is =
    let k : one_block (take a rest) (drop a rest) ≡ one_block content left = rw (e, f, g, h) at is in
    let same : drop a rest ≡ left = cc in
    omega (arith, ap length same, length-drop a rest)

rest_by : (bytes content left : List ℕ) (none short : Bool) → eqb (length bytes) 0 ≡ none → ltb (length bytes) 16 ≡ short → block_in bytes ≡ one_block content left → length left < length bytes
unfolding block_in
rest_by bytes content left true short e f is = let k : no_bytes ≡ one_block content left = rw e at is in absurd cc
rest_by bytes content left false true e f is = let k : cut_block ≡ one_block content left = rw (e, f) at is in absurd cc
rest_by bytes content left false false e f is =
    let a = number_at 0 bytes in let b = number_at 4 bytes in let c = number_at 8 bytes in let d = number_at 12 bytes in let rest = drop 16 bytes in
    let long : 16 ≤ length bytes = ltb-false (length bytes) 16 f in
    let less : length left ≤ length rest = rest_after a b c d rest content left _ _ _ _ refl refl refl refl (sym (header_at bytes long) ∙ is) in
    omega (arith, length-drop 16 bytes)

rest_shorter : (bytes content left : List ℕ) → block_in bytes ≡ one_block content left → length left < length bytes
rest_shorter bytes content left is = rest_by bytes content left _ _ refl refl is

pub none_in : block_in [] ≡ no_bytes
unfolding block_in
none_in = refl

goes_same : (s t : List ℕ → Blocks) (bytes : List ℕ) (found : FirstBlock) → ((content rest : List ℕ) → found ≡ one_block content rest → s rest ≡ t rest) → blocks_by s bytes found ≡ blocks_by t bytes found
goes_same s t bytes no_bytes same = refl
goes_same s t bytes cut_block same = refl
goes_same s t bytes bad_block same = refl
goes_same s t bytes (one_block content rest) same = ap (with_content content) (same content rest refl)

within_same : (n m : ℕ) (bytes : List ℕ) → length bytes ≤ n → length bytes ≤ m → blocks_within n bytes ≡ blocks_within m bytes
unfolding blocks_within
within_same zero zero bytes h k = refl
within_same zero (suc m) [] h k = sym (ap (blocks_by (blocks_within m) []) none_in)
within_same zero (suc m) (b ∷ bytes) h k = absurd (omega arith)
within_same (suc n) zero [] h k = ap (blocks_by (blocks_within n) []) none_in
within_same (suc n) zero (b ∷ bytes) h k = absurd (omega arith)
within_same (suc n) (suc m) bytes h k =
    goes_same (blocks_within n) (blocks_within m) bytes (block_in bytes) (λ content rest e.
    let less : length rest < length bytes = rest_shorter bytes content rest e in
    within_same n m rest (omega arith) (omega arith))

-- one step of reading
pub blocks_step : (bytes : List ℕ) → blocks_in bytes ≡ blocks_by blocks_in bytes (block_in bytes)
unfolding blocks_within
blocks_step [] = sym (ap (blocks_by blocks_in []) none_in)
blocks_step (b ∷ bytes) =
    goes_same (blocks_within (length bytes)) blocks_in (b ∷ bytes) (block_in (b ∷ bytes)) (λ content rest e.
    let less : length rest < length (b ∷ bytes) = rest_shorter (b ∷ bytes) content rest e in
    within_same (length bytes) (length rest) rest (omega arith) (omega arith))

pub block_step : (bytes more : List ℕ) → IsShort bytes → blocks_in (block bytes ++ more) ≡ with_content bytes (blocks_in more)
block_step bytes more short = blocks_step (block bytes ++ more) ∙ ap (blocks_by blocks_in (block bytes ++ more)) (block_again bytes more short)

pub written_again : (written : List (List ℕ)) (more : List ℕ) → AreShort written → blocks_in (blocks_of written ++ more) ≡ with_contents written (blocks_in more)
written_again [] more short = refl
written_again (bytes ∷ rest) more short =
    ap blocks_in (append_assoc (block bytes) (blocks_of rest) more) ∙ block_step bytes (blocks_of rest ++ more) short.0 ∙ ap (with_content bytes) (written_again rest more short.1)

-- ---- what is put behind others

pub joined : (out a b c d bytes : List ℕ) → ((((out ++ a) ++ b) ++ c) ++ d) ++ bytes ≡ out ++ (a ++ (b ++ (c ++ (d ++ bytes))))
joined out a b c d bytes =
    append_assoc (((out ++ a) ++ b) ++ c) d bytes ∙ append_assoc ((out ++ a) ++ b) c (d ++ bytes)
    ∙ append_assoc (out ++ a) b (c ++ (d ++ bytes)) ∙ append_assoc out a (b ++ (c ++ (d ++ bytes)))

pub synced_again : (synced : List (List ℕ)) (more : List ℕ) → AreShort synced → (others : List (List ℕ)) × ((blocks_in (blocks_of synced ++ more)).contents ≡ synced ++ others)
synced_again synced more short = ((blocks_in more).contents, ap (λ (read : Blocks). read.contents) (written_again synced more short))
