-- Reading the words of a reference one after the other, as the loop does.
use Rattle.std.proofs.Common.{◌≡◌, ℕ, suc, ◌-◌, ◌+◌, ◌≤◌, ◌<◌, List, [], ◌∷◌, ◌++◌, Result, Ok, Err, refl, sym, ap, ◌∙◌, append_assoc, arith, append-nil}
use Rattle.std.specs.Int.{w32}
use Rattle.beam_model.specs.Prelude.{ExternalFault, big_endian_at, words_at}
use Rattle.beam_model.specs.ExternalReading.{◌>>=◌}

-- the words that were read, and then those of the rest
abbrev pub before_words : List ℕ → Result (List ℕ × List ℕ) ExternalFault → Result (List ℕ × List ℕ) ExternalFault
before_words front read = read >>= λ x. Ok (front ++ x.0, x.1)

regroup : (front : List ℕ) (word : ℕ) (read : Result (List ℕ × List ℕ) ExternalFault) → before_words front (read >>= λ x. Ok (word ∷ x.0, x.1)) ≡ before_words (front ++ word ∷ []) read
regroup front word (Ok x) = ap (λ (words : List ℕ). Ok (words, x.1)) (simp append_assoc)
regroup front word (Err e) = refl

pub words_go_on : (front : List ℕ) (count i : ℕ) (bytes : List ℕ) (word : ℕ) (after : List ℕ) (total : Result (List ℕ × List ℕ) ExternalFault)
    → i < count → big_endian_at w32 bytes ≡ Ok (word, after) → before_words front (words_at (count - i) bytes) ≡ total → before_words (front ++ word ∷ []) (words_at (count - (i + 1)) after) ≡ total
unfolding words_at
words_go_on front count i bytes word after total lt h so_far =
    let k : count - i ≡ suc (count - (i + 1)) = omega arith in
    let one : before_words front (words_at (count - i) bytes) ≡ before_words (front ++ word ∷ []) (words_at (count - (i + 1)) after) = rw (k, h) (regroup front word (words_at (count - (i + 1)) after)) in
    sym one ∙ so_far

pub words_end : (e : ExternalFault) (front : List ℕ) (count i : ℕ) (bytes : List ℕ) (total : Result (List ℕ × List ℕ) ExternalFault)
    → i < count → big_endian_at w32 bytes ≡ Err e → before_words front (words_at (count - i) bytes) ≡ total → total ≡ Err e
unfolding words_at
words_end e front count i bytes total lt h so_far =
    let k : count - i ≡ suc (count - (i + 1)) = omega arith in
    let one : before_words front (words_at (count - i) bytes) ≡ Err e = rw (k, h) refl in
    sym so_far ∙ one

pub words_done : (front : List ℕ) (count i : ℕ) (bytes : List ℕ) (total : Result (List ℕ × List ℕ) ExternalFault)
    → count ≤ i → before_words front (words_at (count - i) bytes) ≡ total → total ≡ Ok (front, bytes)
unfolding words_at
words_done front count i bytes total le so_far =
    let k : count - i ≡ 0 = omega arith in
    let one : before_words front (words_at (count - i) bytes) ≡ Ok (front, bytes) = rw k (ap (λ (words : List ℕ). Ok (words, bytes)) (append-nil front)) in
    sym so_far ∙ one
