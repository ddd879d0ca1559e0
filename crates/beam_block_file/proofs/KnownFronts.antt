-- Fronts of bytes: a block and a bad front stay what they are as more bytes follow, and a torn end is below 2^33 bytes.
use Rattle.std.proofs.Common.{◌≡◌, if◌then◌else◌, ◌==◌, ℕ, ◌+◌, ◌-◌, ◌^◌, ◌<◌, ◌≤◌, Bool, true, false, eqb, ltb, List, [], ◌∷◌, ◌++◌, length, take, drop, refl, sym, ap, subst, ◌∙◌, arith, length-drop, length-append, append_assoc, ltb-false, ltb-true, eqb-true, lt-ltb}
use Rattle.std.proofs.lemmas.List.{take-append-le, drop-append-le}
use Rattle.std.specs.Int.{w32, from_be_bytes}
use Rattle.beam_blocks.specs.Blocks.{AreBytes, Blocks, FirstBlock, after_header, at_bad_block, bad_block, between_blocks, block, block_in, blocks_by, blocks_in, cut_block, inside_block, no_blocks, no_bytes, number_at, one_block, sums_of}
use Rattle.beam_blocks.proofs.RoundTrip.{block_again, blocks_step, header_at}
use Rattle.beam_blocks.proofs.MoreBytes.{bad_found}
use Rattle.beam_blocks.proofs.Stands.{block_stands}
use Rattle.beam_block_file.proofs.KnownFiles.{length_of_block}
use Rattle.beam_block_file.specs.declared.front.Front.{Front}
use Rattle.beam_block_file.specs.declared.front.Front.TheVariants.{Nothing, Cut, Bad, Block}
use Rattle.beam_block_file.specs.Fronts.{IfBlock, IsFirst, IsUnsettled, bad_size, front_by, front_in, goes_on}

pub front_is : (bytes : List ℕ) (found : FirstBlock) → block_in bytes ≡ found → front_in bytes ≡ front_by bytes found
unfolding front_in
front_is bytes found is = ap (front_by bytes) is

-- ---- bad blocks

long_by : (bytes : List ℕ) (none short : Bool) → eqb (length bytes) 0 ≡ none → ltb (length bytes) 16 ≡ short → block_in bytes ≡ bad_block → 16 ≤ length bytes
unfolding block_in
long_by bytes true short e f is = let k : no_bytes ≡ bad_block = rw e at is in absurd cc
long_by bytes false true e f is = let k : cut_block ≡ bad_block = rw (e, f) at is in absurd cc
long_by bytes false false e f is = ltb-false (length bytes) 16 f

pub bad_long : (bytes : List ℕ) → block_in bytes ≡ bad_block → 16 ≤ length bytes
bad_long bytes is = long_by bytes _ _ refl refl is

pub bad_on : (bytes : List ℕ) → block_in bytes ≡ bad_block → goes_on bytes ≡ true → front_in bytes ≡ Bad
bad_on bytes is on = front_is bytes bad_block is ∙ rw on refl

pub bad_off : (bytes : List ℕ) → block_in bytes ≡ bad_block → goes_on bytes ≡ false → front_in bytes ≡ Cut
bad_off bytes is off = front_is bytes bad_block is ∙ rw off refl

-- the front is bad: there is a bad block, and the bytes go on after it
record IsBadFront (bytes : List ℕ) : Type 0 where
  bad : block_in bytes ≡ bad_block
  on : goes_on bytes ≡ true

bad_by : (bytes : List ℕ) (found : FirstBlock) (on : Bool) → block_in bytes ≡ found → goes_on bytes ≡ on → front_in bytes ≡ Bad → IsBadFront bytes
bad_by bytes no_bytes on is goes front = let k : Nothing ≡ Bad = sym (front_is bytes no_bytes is) ∙ front in absurd cc
bad_by bytes cut_block on is goes front = let k : Cut ≡ Bad = sym (front_is bytes cut_block is) ∙ front in absurd cc
bad_by bytes (one_block content rest) on is goes front = let k : Block (length content) ≡ Bad = sym (front_is bytes (one_block content rest) is) ∙ front in absurd cc
bad_by bytes bad_block true is goes front = record { bad = is; on = goes }
bad_by bytes bad_block false is goes front = let k : Cut ≡ Bad = sym (bad_off bytes is goes) ∙ front in absurd cc

number_stays : (at : ℕ) (bytes more : List ℕ) → at + 4 ≤ length bytes → number_at at (bytes ++ more) ≡ number_at at bytes
number_stays at bytes more within =
    ap (from_be_bytes w32) (ap (take 4) (drop-append-le at bytes more (omega arith)) ∙ take-append-le 4 (drop at bytes) more (omega (arith, length-drop at bytes)))

size_stays : (bytes more : List ℕ) → 16 ≤ length bytes → bad_size (bytes ++ more) ≡ bad_size bytes
size_stays bytes more long = rw (number_stays 0 bytes more (omega arith), number_stays 4 bytes more (omega arith)) refl

on_stays : (bytes more : List ℕ) → 16 ≤ length bytes → goes_on bytes ≡ true → goes_on (bytes ++ more) ≡ true
on_stays bytes more long on =
    let less : bad_size bytes < length bytes = ltb-true (bad_size bytes) (length bytes) on in
    lt-ltb (bad_size (bytes ++ more)) (length (bytes ++ more)) (omega (arith, less, size_stays bytes more long, length-append bytes more))

bad_again : (bytes : List ℕ) (found : FirstBlock) → blocks_by blocks_in bytes found ≡ no_blocks bytes at_bad_block → found ≡ bad_block
bad_again bytes no_bytes is = let k : between_blocks ≡ at_bad_block = ap (λ (b : Blocks). b.end) is in absurd cc
bad_again bytes cut_block is = let k : inside_block ≡ at_bad_block = ap (λ (b : Blocks). b.end) is in absurd cc
bad_again bytes bad_block is = refl
bad_again bytes (one_block content rest) is =
    let k : content ∷ (blocks_in rest).contents ≡ [] = ap (λ (b : Blocks). b.contents) is in absurd cc

block_stays_bad : (bytes more : List ℕ) → block_in bytes ≡ bad_block → block_in (bytes ++ more) ≡ bad_block
block_stays_bad bytes more is = bad_again (bytes ++ more) (block_in (bytes ++ more)) (sym (blocks_step (bytes ++ more)) ∙ bad_found bytes more is)

bad_stays_by : (bytes more : List ℕ) → IsBadFront bytes → front_in (bytes ++ more) ≡ Bad
bad_stays_by bytes more b = bad_on (bytes ++ more) (block_stays_bad bytes more b.bad) (on_stays bytes more (bad_long bytes b.bad) b.on)

pub bad_stays : (bytes more : List ℕ) → front_in bytes ≡ Bad → front_in (bytes ++ more) ≡ Bad
bad_stays bytes more is = bad_stays_by bytes more (bad_by bytes _ _ refl refl is)

-- ---- blocks

pub first_one : (bytes content rest : List ℕ) → AreBytes bytes → block_in bytes ≡ one_block content rest → IsFirst (length content) bytes
first_one bytes content rest fit is =
    let stands = (block_stands bytes content rest fit).0 is in record {
      content = content;
      rest = rest;
      size = refl;
      short = stands.0;
      stands = stands.1;
      fits = omega (arith, ap length stands.1, length-append (block content) rest, length_of_block content);
    }

first_by : (bytes : List ℕ) (found : FirstBlock) (on : Bool) → AreBytes bytes → block_in bytes ≡ found → goes_on bytes ≡ on → IfBlock (front_in bytes) (λ n. IsFirst n bytes)
first_by bytes no_bytes on fit is goes = rw (front_is bytes no_bytes is) tt
first_by bytes cut_block on fit is goes = rw (front_is bytes cut_block is) tt
first_by bytes bad_block true fit is goes = rw (bad_on bytes is goes) tt
first_by bytes bad_block false fit is goes = rw (bad_off bytes is goes) tt
first_by bytes (one_block content rest) on fit is goes = rw (front_is bytes (one_block content rest) is) (first_one bytes content rest fit is)

pub first_found : (bytes : List ℕ) → AreBytes bytes → IfBlock (front_in bytes) (λ n. IsFirst n bytes)
first_found bytes fit = first_by bytes _ _ fit refl refl

pub first_block : (bytes more : List ℕ) (n : ℕ) (f : IsFirst n bytes) → block_in (bytes ++ more) ≡ one_block f.content (f.rest ++ more)
first_block bytes more n f =
    ap (λ (l : List ℕ). block_in (l ++ more)) f.stands ∙ ap block_in (append_assoc (block f.content) f.rest more) ∙ block_again f.content (f.rest ++ more) f.short

pub first_stays : (bytes more : List ℕ) (n : ℕ) → IsFirst n bytes → front_in (bytes ++ more) ≡ Block n
first_stays bytes more n f = front_is (bytes ++ more) (one_block f.content (f.rest ++ more)) (first_block bytes more n f) ∙ ap Block f.size

-- ---- torn ends

-- there is no block, and more bytes may make one
abbrev IsLess : FirstBlock → Type 0
IsLess no_bytes = Unit {0}
IsLess cut_block = Unit {0}
IsLess bad_block = ⊥
IsLess (one_block content rest) = ⊥

less_after : (a b c d : ℕ) (rest : List ℕ) (mirrored short first second : Bool) → eqb (a + b) (2 ^ 32 - 1) ≡ mirrored → ltb (length rest) a ≡ short
    → eqb (sums_of (take a rest)).first c ≡ first → eqb (sums_of (take a rest)).second d ≡ second → IsLess (after_header a b c d rest) → length rest < 2 ^ 32
unfolding after_header
less_after a b c d rest false short first second e f g h is = let k : ⊥ = rw e at is in absurd k
less_after a b c d rest true true first second e f g h is = omega (arith, eqb-true (a + b) (2 ^ 32 - 1) e, ltb-true (length rest) a f)
less_after a b c d rest true false false second e f g h is = let k : ⊥ = rw (e, f, g) at is in absurd k
less_after a b c d rest true false true false e f g h is = let k : ⊥ = rw (e, f, g, h) at is in absurd k
less_after a b c d rest true false true true e f g h is = let k : ⊥ = rw (e, f, g, h) at is in absurd k

less_by : (bytes : List ℕ) (none short : Bool) → eqb (length bytes) 0 ≡ none → ltb (length bytes) 16 ≡ short → IsLess (block_in bytes) → length bytes < 2 ^ 33
unfolding block_in
less_by bytes true short e f is = omega (arith, eqb-true (length bytes) 0 e)
less_by bytes false true e f is = omega (arith, ltb-true (length bytes) 16 f)
less_by bytes false false e f is =
    let long : 16 ≤ length bytes = ltb-false (length bytes) 16 f in
    let rest : length (drop 16 bytes) < 2 ^ 32 =
    less_after (number_at 0 bytes) (number_at 4 bytes) (number_at 8 bytes) (number_at 12 bytes) (drop 16 bytes) _ _ _ _ refl refl refl refl
    (subst IsLess (header_at bytes long) is) in
    omega (arith, length-drop 16 bytes)

size_by : (a b : ℕ) (mirrored : Bool) → eqb (a + b) (2 ^ 32 - 1) ≡ mirrored → (if a + b == 2 ^ 32 - 1 then 16 + a else 4096) < 2 ^ 33
size_by a b true e = rw e (omega (arith, eqb-true (a + b) (2 ^ 32 - 1) e))
size_by a b false e = rw e (omega arith)

off_short : (bytes : List ℕ) → goes_on bytes ≡ false → length bytes < 2 ^ 33
off_short bytes off =
    let size : bad_size bytes < 2 ^ 33 = size_by (number_at 0 bytes) (number_at 4 bytes) _ refl in
    omega (arith, size, ltb-false (bad_size bytes) (length bytes) off)

short_by : (bytes : List ℕ) (found : FirstBlock) (on : Bool) → block_in bytes ≡ found → goes_on bytes ≡ on → IsUnsettled (front_in bytes) → length bytes < 2 ^ 33
short_by bytes no_bytes on is goes front = less_by bytes _ _ refl refl (rw is tt)
short_by bytes cut_block on is goes front = less_by bytes _ _ refl refl (rw is tt)
short_by bytes bad_block true is goes front = let k : ⊥ = rw (bad_on bytes is goes) at front in absurd k
short_by bytes bad_block false is goes front = off_short bytes goes
short_by bytes (one_block content rest) on is goes front = let k : ⊥ = rw (front_is bytes (one_block content rest) is) at front in absurd k

pub unsettled_short : (bytes : List ℕ) → IsUnsettled (front_in bytes) → length bytes < 2 ^ 33
unsettled_short bytes front = short_by bytes _ _ refl refl front

-- what is settled stays so, whatever bytes follow
pub settled_stays : (front : Front) (bytes more : List ℕ) → front ≡ front_in bytes → IfBlock front (λ n. IsFirst n bytes) → (IsUnsettled front → ⊥) → front ≡ front_in (bytes ++ more)
settled_stays Nothing bytes more is block settled = absurd (settled tt)
settled_stays Cut bytes more is block settled = absurd (settled tt)
settled_stays Bad bytes more is block settled = sym (bad_stays bytes more (sym is))
settled_stays (Block n) bytes more is block settled = sym (first_stays bytes more n block)

-- ---- no bytes

some_after : (a b c d : ℕ) (rest : List ℕ) (mirrored short first second : Bool) → eqb (a + b) (2 ^ 32 - 1) ≡ mirrored → ltb (length rest) a ≡ short
    → eqb (sums_of (take a rest)).first c ≡ first → eqb (sums_of (take a rest)).second d ≡ second → after_header a b c d rest ≡ no_bytes → ⊥
unfolding after_header
some_after a b c d rest false short first second e f g h is = let k : bad_block ≡ no_bytes = rw e at is in cc
some_after a b c d rest true true first second e f g h is = let k : cut_block ≡ no_bytes = rw (e, f) at is in cc
some_after a b c d rest true false false second e f g h is = let k : bad_block ≡ no_bytes = rw (e, f, g) at is in cc
some_after a b c d rest true false true false e f g h is = let k : bad_block ≡ no_bytes = rw (e, f, g, h) at is in cc
some_after a b c d rest true false true true e f g h is = let k : one_block (take a rest) (drop a rest) ≡ no_bytes = rw (e, f, g, h) at is in cc

no_length : (bytes : List ℕ) → length bytes ≡ 0 → bytes ≡ []
no_length [] e = refl
no_length (b ∷ bytes) e = absurd (omega (arith, e))

none_by : (bytes : List ℕ) (none short : Bool) → eqb (length bytes) 0 ≡ none → ltb (length bytes) 16 ≡ short → block_in bytes ≡ no_bytes → bytes ≡ []
unfolding block_in
none_by bytes true short e f is = no_length bytes (eqb-true (length bytes) 0 e)
none_by bytes false true e f is = let k : cut_block ≡ no_bytes = rw (e, f) at is in absurd cc
none_by bytes false false e f is =
    absurd (some_after (number_at 0 bytes) (number_at 4 bytes) (number_at 8 bytes) (number_at 12 bytes) (drop 16 bytes) _ _ _ _ refl refl refl refl
    (sym (header_at bytes (ltb-false (length bytes) 16 f)) ∙ is))

nothing_by : (bytes : List ℕ) (found : FirstBlock) (on : Bool) → block_in bytes ≡ found → goes_on bytes ≡ on → Nothing ≡ front_in bytes → bytes ≡ []
nothing_by bytes no_bytes on is goes front = none_by bytes _ _ refl refl is
nothing_by bytes cut_block on is goes front = let k : Nothing ≡ Cut = front ∙ front_is bytes cut_block is in absurd cc
nothing_by bytes bad_block true is goes front = let k : Nothing ≡ Bad = front ∙ bad_on bytes is goes in absurd cc
nothing_by bytes bad_block false is goes front = let k : Nothing ≡ Cut = front ∙ bad_off bytes is goes in absurd cc
nothing_by bytes (one_block content rest) on is goes front = let k : Nothing ≡ Block (length content) = front ∙ front_is bytes (one_block content rest) is in absurd cc

pub nothing_front : (bytes : List ℕ) → Nothing ≡ front_in bytes → bytes ≡ []
nothing_front bytes front = nothing_by bytes _ _ refl refl front
