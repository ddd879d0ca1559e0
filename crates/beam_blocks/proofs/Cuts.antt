-- The first bytes of what was written are read as its first blocks: by recursion on the blocks, by where the cut lies.
use Rattle.std.proofs.Common.{◌≡◌, ℕ, suc, ◌+◌, ◌-◌, ◌^◌, ◌<◌, Bool, true, false, eqb, ltb, List, [], ◌∷◌, ◌++◌, length, take, refl, sym, ap, subst, ◌∙◌, arith, length-take, inl, inr, ltb-false, lt-ltb, eq-eqb, take_all}
use Rattle.std.proofs.lemmas.Bool.{cases_lt}
use Rattle.std.proofs.lemmas.List.{take-append-le}
use Rattle.std.specs.Int.{w32, to_be_bytes}
use Rattle.std.proofs.Math.Seq.{take-append-add}
use Rattle.beam_blocks.specs.Blocks.{sums_of, number_before, block, blocks_of, IsShort, AreShort, IsBeginning, FirstBlock, no_bytes, cut_block, bad_block, one_block, after_header, block_in, Blocks, with_content, blocks_by, blocks_within, blocks_in}
use Rattle.beam_blocks.proofs.RoundTrip.{sums_fit, header, header_in, blocks_step, block_step}

-- no block is found, and no fault
abbrev IsLess : FirstBlock → Type 0
IsLess no_bytes = Unit {0}
IsLess cut_block = Unit {0}
IsLess bad_block = ⊥
IsLess (one_block bytes rest) = ⊥

less_by : (bytes : List ℕ) (none short : Bool) → eqb (length bytes) 0 ≡ none → ltb (length bytes) 16 ≡ short → length bytes < 16 → IsLess (block_in bytes)
unfolding block_in
less_by bytes true short e f lt = rw e tt
less_by bytes false true e f lt = rw (e, f) tt
less_by bytes false false e f lt = absurd (omega (arith, ltb-false (length bytes) 16 f, lt))

fewer : (bytes : List ℕ) → length bytes < 16 → IsLess (block_in bytes)
fewer bytes lt = less_by bytes _ _ refl refl lt

after_cut : (a b c d : ℕ) (rest : List ℕ) → a + b ≡ 2 ^ 32 - 1 → length rest < a → after_header a b c d rest ≡ cut_block
unfolding after_header
after_cut a b c d rest adds short = rw (eq-eqb (a + b) (2 ^ 32 - 1) adds, lt-ltb (length rest) a short) refl

take_before : (n a : ℕ) (rest : List ℕ) → take (4 + n) (number_before a rest) ≡ number_before a (take n rest)
take_before n a rest = take-append-add (to_be_bytes w32 a) rest n

more : (n m : ℕ) → 4 + n ≡ m → (a : ℕ) (rest : List ℕ) → take m (number_before a rest) ≡ number_before a (take n rest)
more n m is a rest = ap (λ k. take k (number_before a rest)) (sym is) ∙ take_before n a rest

take_header : (n a b c d : ℕ) (rest : List ℕ) → take (16 + n) (header a b c d rest) ≡ header a b c d (take n rest)
take_header n a b c d rest =
    more (12 + n) (16 + n) (omega arith) a (number_before b (number_before c (number_before d rest)))
    ∙ ap (number_before a) (more (8 + n) (12 + n) (omega arith) b (number_before c (number_before d rest))
    ∙ ap (number_before b) (more (4 + n) (8 + n) (omega arith) c (number_before d rest) ∙ ap (number_before c) (take_before n d rest)))

inside_is_cut : (bytes : List ℕ) (n : ℕ) → IsShort bytes → n < length bytes → IsLess (block_in (take (16 + n) (block bytes)))
unfolding block
inside_is_cut bytes n short less =
    let fit = sums_fit bytes in
    let a = length bytes in
    let is : block_in (take (16 + n) (block bytes)) ≡ cut_block =
    ap block_in (take_header n a (2 ^ 32 - 1 - a) (sums_of bytes).first (sums_of bytes).second bytes)
    ∙ header_in a (2 ^ 32 - 1 - a) (sums_of bytes).first (sums_of bytes).second (take n bytes) short (omega arith) fit.first fit.second
    ∙ after_cut a (2 ^ 32 - 1 - a) (sums_of bytes).first (sums_of bytes).second (take n bytes) (omega arith) (omega (arith, length-take n bytes)) in
    subst IsLess (sym is) tt

length_block : (bytes : List ℕ) → length (block bytes) ≡ 16 + length bytes
unfolding block
length_block bytes = omega arith

less_cases : (bytes : List ℕ) (n : ℕ) → IsShort bytes → n < length (block bytes) → IsLess (block_in (take n (block bytes)))
less_cases bytes n short less =
    elim (cases_lt n 16) [
      | inl few ↦ fewer (take n (block bytes)) (omega (arith, length-take n (block bytes)))
      | inr many ↦
          let is : 16 + (n - 16) ≡ n = omega arith in
          subst (λ k. IsLess (block_in (take k (block bytes)))) is (inside_is_cut bytes (n - 16) short (omega (arith, length_block bytes)))
    ]

-- ---- a log

not_broken : (written : List (List ℕ)) (bytes : List ℕ) (found : FirstBlock) → IsLess found → IsBeginning written (blocks_by blocks_in bytes found)
not_broken written bytes no_bytes less = record { count = 0; first = refl; sound = λ e. cc }
not_broken written bytes cut_block less = record { count = 0; first = refl; sound = λ e. cc }
not_broken written bytes bad_block less = absurd less
not_broken written bytes (one_block content rest) less = absurd less

one_more : (bytes : List ℕ) (written : List (List ℕ)) (read : Blocks) → IsBeginning written read → IsBeginning (bytes ∷ written) (with_content bytes read)
one_more bytes written read h = record { count = suc h.count; first = ap (λ (found : List (List ℕ)). bytes ∷ found) h.first; sound = h.sound }

pub cut_again : (written : List (List ℕ)) (n : ℕ) → AreShort written → IsBeginning written (blocks_in (take n (blocks_of written)))
unfolding blocks_within
cut_again [] n short = subst (λ bytes. IsBeginning [] (blocks_in bytes)) (sym (take_all n [] (omega arith))) (record { count = 0; first = refl; sound = λ e. cc })
cut_again (bytes ∷ rest) n short =
    elim (cases_lt n (length (block bytes))) [
      | inl less ↦
          let is : take n (block bytes ++ blocks_of rest) ≡ take n (block bytes) = take-append-le n (block bytes) (blocks_of rest) (omega arith) in
          let front = take n (block bytes) in
          let begins : IsBeginning (bytes ∷ rest) (blocks_in front) =
          subst (IsBeginning (bytes ∷ rest)) (sym (blocks_step front)) (not_broken (bytes ∷ rest) front (block_in front) (less_cases bytes n short.0 less)) in
          subst (λ (b : List ℕ). IsBeginning (bytes ∷ rest) (blocks_in b)) (sym is) begins
      | inr more ↦
          let m = n - length (block bytes) in
          let is : take n (block bytes ++ blocks_of rest) ≡ block bytes ++ take m (blocks_of rest) =
          ap (λ k. take k (block bytes ++ blocks_of rest)) (omega arith) ∙ take-append-add (block bytes) (blocks_of rest) m in
          let begins : IsBeginning (bytes ∷ rest) (blocks_in (block bytes ++ take m (blocks_of rest))) =
          subst (IsBeginning (bytes ∷ rest)) (sym (block_step bytes (take m (blocks_of rest)) short.0))
          (one_more bytes rest (blocks_in (take m (blocks_of rest))) (cut_again rest m short.1)) in
          subst (λ (b : List ℕ). IsBeginning (bytes ∷ rest) (blocks_in b)) (sym is) begins
    ]
