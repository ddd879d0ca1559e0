-- What is read stands there: numbers of four bytes are those bytes, so a header that passes its tests is that of its content; then by
-- recursion on the count of blocks.
use Rattle.std.proofs.Common.{◌≡◌, ℕ, zero, suc, ◌+◌, ◌-◌, ◌^◌, ◌≤◌, Bool, true, false, eqb, ltb, List, [], ◌∷◌, ◌++◌, length, take, drop, refl, sym, ap, subst, ◌∙◌, ◌↔◌, arith, length-drop, length-take, append_assoc, drop-drop, ltb-false, eqb-true, take-append-drop}
use Rattle.std.proofs.lemmas.Nat.{be_bytes_4}
use Rattle.std.specs.Int.{w32, to_be_bytes}
use Rattle.beam_blocks.specs.Blocks.{sums_of, number_before, block, blocks_of, IsShort, AreBytes, FirstBlock, no_bytes, cut_block, bad_block, one_block, number_at, after_header, block_in, blocks_by, blocks_within, blocks_in}
use Rattle.beam_blocks.proofs.RoundTrip.{header, header_at, spread, block_again}

-- ---- bytes

take_bytes : (n : ℕ) (bytes : List ℕ) → AreBytes bytes → AreBytes (take n bytes)
take_bytes zero bytes fit i = omega arith
take_bytes (suc n) [] fit i = omega arith
take_bytes (suc n) (b ∷ bytes) fit zero = fit 0
take_bytes (suc n) (b ∷ bytes) fit (suc i) = take_bytes n bytes (λ j. fit (suc j)) i

drop_bytes : (n : ℕ) (bytes : List ℕ) → AreBytes bytes → AreBytes (drop n bytes)
drop_bytes zero bytes fit = fit
drop_bytes (suc n) [] fit = fit
drop_bytes (suc n) (b ∷ bytes) fit = drop_bytes n bytes (λ i. fit (suc i))

later_bytes : (first bytes : List ℕ) → AreBytes (first ++ bytes) → AreBytes bytes
later_bytes [] bytes fit = fit
later_bytes (b ∷ first) bytes fit = later_bytes first bytes (λ i. fit (suc i))

-- ---- a header

number_stands : (at : ℕ) (bytes : List ℕ) → AreBytes bytes → at + 4 ≤ length bytes → drop at bytes ≡ number_before (number_at at bytes) (drop (at + 4) bytes)
number_stands at bytes fit within =
    let field = take 4 (drop at bytes) in
    let same : to_be_bytes w32 (number_at at bytes) ≡ field =
    be_bytes_4 field (number_at at bytes) (omega (arith, length-take 4 (drop at bytes), length-drop at bytes)) (take_bytes 4 (drop at bytes) (drop_bytes at bytes fit)) refl in
    sym (take-append-drop 4 (drop at bytes)) ∙ (λ i. sym same i ++ drop-drop 4 at bytes i)

header_stands : (bytes : List ℕ) → AreBytes bytes → 16 ≤ length bytes → bytes ≡ header (number_at 0 bytes) (number_at 4 bytes) (number_at 8 bytes) (number_at 12 bytes) (drop 16 bytes)
header_stands bytes fit long =
    number_stands 0 bytes fit (omega arith)
    ∙ ap (number_before (number_at 0 bytes)) (number_stands 4 bytes fit (omega arith)
    ∙ ap (number_before (number_at 4 bytes)) (number_stands 8 bytes fit (omega arith)
    ∙ ap (number_before (number_at 8 bytes)) (number_stands 12 bytes fit (omega arith))))

-- ---- a block

-- the four numbers stand in the header of the content, and the bytes begin with the content
record IsHeaderOf (a b c d : ℕ) (bytes content rest : List ℕ) : Type 0 where
  count : a ≡ length content
  adds : a + b ≡ 2 ^ 32 - 1
  first : c ≡ (sums_of content).first
  second : d ≡ (sums_of content).second
  stands : bytes ≡ content ++ rest

header_by : (a b c d : ℕ) (bytes content rest : List ℕ) (mirrored short first second : Bool) → eqb (a + b) (2 ^ 32 - 1) ≡ mirrored → ltb (length bytes) a ≡ short
    → eqb (sums_of (take a bytes)).first c ≡ first → eqb (sums_of (take a bytes)).second d ≡ second → after_header a b c d bytes ≡ one_block content rest
    → IsHeaderOf a b c d bytes content rest
unfolding after_header
header_by a b c d bytes content rest false short first second e f g h is = let k : bad_block ≡ one_block content rest = rw e at is in absurd cc
header_by a b c d bytes content rest true true first second e f g h is = let k : cut_block ≡ one_block content rest = rw (e, f) at is in absurd cc
header_by a b c d bytes content rest true false false second e f g h is = let k : bad_block ≡ one_block content rest = rw (e, f, g) at is in absurd cc
header_by a b c d bytes content rest true false true false e f g h is = let k : bad_block ≡ one_block content rest = rw (e, f, g, h) at is in absurd cc
header_by a b c d bytes content rest true false true true e f g h is =
    let k : one_block (take a bytes) (drop a bytes) ≡ one_block content rest = rw (e, f, g, h) at is in
    let here : take a bytes ≡ content = cc in
    let after : drop a bytes ≡ rest = cc in
    record {
      count = omega (arith, ap length here, length-take a bytes, ltb-false (length bytes) a f);
      adds = eqb-true (a + b) (2 ^ 32 - 1) e;
      first = sym (eqb-true (sums_of (take a bytes)).first c g) ∙ ap (λ (l : List ℕ). (sums_of l).first) here;
      second = sym (eqb-true (sums_of (take a bytes)).second d h) ∙ ap (λ (l : List ℕ). (sums_of l).second) here;
      stands = sym (take-append-drop a bytes) ∙ (λ i. here i ++ after i);
    }

stands_by : (bytes content rest : List ℕ) (none short : Bool) → eqb (length bytes) 0 ≡ none → ltb (length bytes) 16 ≡ short → AreBytes bytes
    → block_in bytes ≡ one_block content rest → IsShort content × (bytes ≡ block content ++ rest)
unfolding block_in
stands_by bytes content rest true short e f fit is = let k : no_bytes ≡ one_block content rest = rw e at is in absurd cc
stands_by bytes content rest false true e f fit is = let k : cut_block ≡ one_block content rest = rw (e, f) at is in absurd cc
stands_by bytes content rest false false e f fit is =
    let long : 16 ≤ length bytes = ltb-false (length bytes) 16 f in
    let a = number_at 0 bytes in let b = number_at 4 bytes in let c = number_at 8 bytes in let d = number_at 12 bytes in
    let h : IsHeaderOf a b c d (drop 16 bytes) content rest = header_by a b c d (drop 16 bytes) content rest _ _ _ _ refl refl refl refl (sym (header_at bytes long) ∙ is) in
    let mirror : b ≡ 2 ^ 32 - 1 - length content = omega (arith, h.count, h.adds) in (
      omega (arith, h.count, h.adds),
      header_stands bytes fit long ∙ (λ i. header (h.count i) (mirror i) (h.first i) (h.second i) (h.stands i)) ∙ sym (spread content rest),
    )

pub block_stands : (bytes content rest : List ℕ) → AreBytes bytes → (block_in bytes ≡ one_block content rest) ↔ (IsShort content × (bytes ≡ block content ++ rest))
block_stands bytes content rest fit = (
  λ is. stands_by bytes content rest _ _ refl refl fit is,
  λ s. ap block_in s.1 ∙ block_again content rest s.0,
)

-- ---- blocks

abbrev Stand : List ℕ → List (List ℕ) → List ℕ → Type 0
Stand bytes contents rest = bytes ≡ blocks_of contents ++ rest

step_stands : (n : ℕ) (bytes : List ℕ) (found : FirstBlock) → block_in bytes ≡ found → AreBytes bytes
    → ((rest : List ℕ) → AreBytes rest → Stand rest (blocks_within n rest).contents (blocks_within n rest).rest)
    → Stand bytes (blocks_by (blocks_within n) bytes found).contents (blocks_by (blocks_within n) bytes found).rest
step_stands n bytes no_bytes is fit later = refl
step_stands n bytes cut_block is fit later = refl
step_stands n bytes bad_block is fit later = refl
step_stands n bytes (one_block content rest) is fit later =
    let here : bytes ≡ block content ++ rest = (stands_by bytes content rest _ _ refl refl fit is).1 in
    let after : Stand rest (blocks_within n rest).contents (blocks_within n rest).rest = later rest (later_bytes (block content) rest (subst AreBytes here fit)) in
    here ∙ ap (λ (l : List ℕ). block content ++ l) after ∙ sym (append_assoc (block content) (blocks_of (blocks_within n rest).contents) (blocks_within n rest).rest)

within_stand : (n : ℕ) (bytes : List ℕ) → AreBytes bytes → Stand bytes (blocks_within n bytes).contents (blocks_within n bytes).rest
unfolding blocks_within
within_stand zero bytes fit = refl
within_stand (suc n) bytes fit = step_stands n bytes (block_in bytes) refl fit (within_stand n)

pub blocks_stand : (bytes : List ℕ) → AreBytes bytes → bytes ≡ blocks_of (blocks_in bytes).contents ++ (blocks_in bytes).rest
blocks_stand bytes fit = within_stand (length bytes) bytes fit
