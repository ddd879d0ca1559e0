-- Numbers of two and of four bytes stand where they are read.
use Rattle.std.proofs.Common.{◌≡◌, ℕ, zero, suc, ◌^◌, ◌<◌, ◌≤◌, List, [], ◌∷◌, ◌++◌, length, get_or, take, drop, sym, ap, ◌∙◌, arith, length-take, take-append-drop, append-nil}
use Rattle.std.specs.Int.{w16, w32, w64, from_be_bytes}
use Rattle.std.proofs.lemmas.Nat.{be_bytes_2, be_bytes_4, be_bytes_8}
use Rattle.byteorder.specs.Endian.{big_number, big_bytes}
use Rattle.byteorder.specs.Numbers.{big_number-reads_back, length-bytes_high_first}
use Rattle.beam_machine.specs.Prelude.{IsNumber}

abbrev pub AreBytes : List ℕ → Type 0
AreBytes bytes = (i : ℕ) → get_or bytes i 0 < 256

pub take_bytes : (n : ℕ) (bytes : List ℕ) → AreBytes bytes → AreBytes (take n bytes)
take_bytes zero bytes fit i = omega arith
take_bytes (suc n) [] fit i = omega arith
take_bytes (suc n) (b ∷ bytes) fit zero = fit 0
take_bytes (suc n) (b ∷ bytes) fit (suc i) = take_bytes n bytes (λ j. fit (suc j)) i

-- ---- what is read stands there

pub two_stand : (bytes : List ℕ) (n : ℕ) → AreBytes bytes → 2 ≤ length bytes → n ≡ from_be_bytes w16 (take 2 bytes) → bytes ≡ big_bytes 2 n ++ drop 2 bytes
two_stand bytes n fit long is =
    let field = take 2 bytes in
    let same : big_bytes 2 n ≡ field = be_bytes_2 field n (omega (arith, length-take 2 bytes)) (take_bytes 2 bytes fit) is in
    sym (take-append-drop 2 bytes) ∙ ap (λ (l : List ℕ). l ++ drop 2 bytes) (sym same)

pub four_stand : (bytes : List ℕ) (n : ℕ) → AreBytes bytes → 4 ≤ length bytes → n ≡ from_be_bytes w32 (take 4 bytes) → bytes ≡ big_bytes 4 n ++ drop 4 bytes
four_stand bytes n fit long is =
    let field = take 4 bytes in
    let same : big_bytes 4 n ≡ field = be_bytes_4 field n (omega (arith, length-take 4 bytes)) (take_bytes 4 bytes fit) is in
    sym (take-append-drop 4 bytes) ∙ ap (λ (l : List ℕ). l ++ drop 4 bytes) (sym same)

pub eight_stand : (bytes : List ℕ) (n : ℕ) → AreBytes bytes → 8 ≤ length bytes → n ≡ from_be_bytes w64 (take 8 bytes) → bytes ≡ big_bytes 8 n ++ drop 8 bytes
eight_stand bytes n fit long is =
    let field = take 8 bytes in
    let same : big_bytes 8 n ≡ field = be_bytes_8 field n (omega (arith, length-take 8 bytes)) (take_bytes 8 bytes fit) is in
    sym (take-append-drop 8 bytes) ∙ ap (λ (l : List ℕ). l ++ drop 8 bytes) (sym same)

-- ---- what is written is spelled

pub number_written : (count n : ℕ) → n < 256 ^ count → IsNumber count (big_bytes count n) n
number_written count n lt = record {
  wide = length-bytes_high_first count n;
  value = ap (big_number count) (sym (append-nil (big_bytes count n))) ∙ big_number-reads_back count n [] lt;
}
