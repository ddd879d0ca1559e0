-- A field that was written is read again.
use Rattle.std.proofs.Common.{◌≡◌, ℕ, suc, ◌+◌, ◌-◌, ◌*◌, ◌/◌, ◌%◌, ◌^◌, ◌<◌, ◌≤◌, ℤ, pos, negsuc, ◌-ℤ◌, true, false, ltb, eqb, List, [], ◌∷◌, ◌++◌, length, Ok, refl, arith, ltb-true, lt-ltb, le-ltb, ne_eqb, drop_at, length-append}
use Rattle.std.specs.Int.{w64}
use Rattle.std.proofs.Math.Nat.{mod-eq_of_lt}
use Rattle.std.proofs.lemmas.Bool.{cond_both}
use Rattle.std.proofs.lemmas.Int.{ints}
use Rattle.byteorder.specs.Endian.{big_number, big_bytes, twos_complement, low_bytes}
use Rattle.byteorder.specs.Numbers.{big_number-reads_back, length-bytes_high_first}
use Rattle.beam_model.specs.Prelude.{value_at, wide_at, field, wide_of, wide_length, magnitude}

pub record IsField (tag : ℕ) (text : List ℕ) (z : ℤ) : Type 0 where
  pub first : ℕ
  pub bytes : List ℕ
  pub parts : text ≡ first ∷ bytes
  pub tagged : first % 8 ≡ tag
  pub again : (more : List ℕ) → value_at first (bytes ++ more) ≡ Ok (z, more)

short_field : (tag n : ℕ) → tag < 8 → n < 16 → IsField tag ((n * 16 + tag) ∷ []) (pos n)
unfolding value_at
short_field tag n t h = record {
  first = n * 16 + tag;
  bytes = [];
  parts = refl;
  tagged = omega arith;
  again = λ more.
      let small : ltb ((n * 16 + tag) % 16) 8 ≡ true = lt-ltb _ _ (omega arith) in
      let value : (n * 16 + tag) / 16 ≡ n = omega arith in
      rw (small, value) refl;
}

middle_field : (tag n : ℕ) → tag < 8 → n < 2048 → IsField tag ((n / 256 * 32 + 8 + tag) ∷ n % 256 ∷ []) (pos n)
unfolding value_at
middle_field tag n t h = record {
  first = n / 256 * 32 + 8 + tag;
  bytes = n % 256 ∷ [];
  parts = refl;
  tagged = omega arith;
  again = λ more.
      let large : ltb ((n / 256 * 32 + 8 + tag) % 16) 8 ≡ false = le-ltb _ _ (omega arith) in
      let second : ltb ((n / 256 * 32 + 8 + tag) % 32) 16 ≡ true = lt-ltb _ _ (omega arith) in
      let value : (n / 256 * 32 + 8 + tag) / 32 * 256 + n % 256 ≡ n = omega arith in
      rw (large, second, value) refl;
}

-- n bytes hold z in two's complement
pub record IsWide (n : ℕ) (z : ℤ) : Type 0 where
  pub low : 2 ≤ n
  pub high : n ≤ 8
  pub fits : low_bytes w64 n z < 256 ^ n
  pub back : twos_complement n (low_bytes w64 n z) ≡ z

wide_again : (n : ℕ) (z : ℤ) → IsWide n z → (more : List ℕ) → wide_at n (big_bytes n (low_bytes w64 n z) ++ more) ≡ Ok (z, more)
wide_again n z w more =
    let len : length (big_bytes n (low_bytes w64 n z)) ≡ n = length-bytes_high_first n (low_bytes w64 n z) in
    let enough : ltb (length (big_bytes n (low_bytes w64 n z) ++ more)) n ≡ false = le-ltb _ _ (omega (arith, length-append (big_bytes n (low_bytes w64 n z)) more)) in
    let number : big_number n (big_bytes n (low_bytes w64 n z) ++ more) ≡ low_bytes w64 n z = big_number-reads_back n (low_bytes w64 n z) more w.fits in
    rw (enough, number, drop_at (big_bytes n (low_bytes w64 n z)) more n len, w.back) refl

wide_field : (tag n : ℕ) (z : ℤ) → tag < 8 → IsWide n z → IsField tag (wide_of n tag z) z
unfolding value_at
wide_field tag n z t w =
    let low : 2 ≤ n = w.low in
    let high : n ≤ 8 = w.high in
    record {
      first = (n - 2) * 32 + 24 + tag;
      bytes = big_bytes n (low_bytes w64 n z);
      parts = refl;
      tagged = omega arith;
      again = λ more.
          let large : ltb (((n - 2) * 32 + 24 + tag) % 16) 8 ≡ false = le-ltb _ _ (omega arith) in
          let third : ltb (((n - 2) * 32 + 24 + tag) % 32) 16 ≡ false = le-ltb _ _ (omega arith) in
          let some : eqb (((n - 2) * 32 + 24 + tag) / 32) 7 ≡ false = ne_eqb _ _ (λ e. omega arith) in
          let count : ((n - 2) * 32 + 24 + tag) / 32 + 2 ≡ n = omega arith in
          rw (large, third, some, count) (wide_again n z w more);
    }

pub wide_2 : (z : ℤ) → magnitude z < 2 ^ 15 → IsWide 2 z
wide_2 (pos n) h =
    let x : low_bytes w64 2 (pos n) ≡ n = mod-eq_of_lt (omega arith) in
    let small : ltb n (2 ^ 15) ≡ true = lt-ltb _ _ h in
    record { low = omega arith; high = omega arith; fits = rw x (omega arith); back = rw (x, small) refl }
wide_2 (negsuc n) h =
    let x : low_bytes w64 2 (negsuc n) ≡ 2 ^ 16 - suc n = omega arith in
    let large : ltb (2 ^ 16 - suc n) (2 ^ 15) ≡ false = le-ltb _ _ (omega arith) in
    let value : pos (2 ^ 16 - suc n) -ℤ pos (2 ^ 16) ≡ negsuc n = omega (arith, ints) in
    record { low = omega arith; high = omega arith; fits = rw x (omega arith); back = rw (x, large) value }

pub wide_3 : (z : ℤ) → magnitude z < 2 ^ 23 → IsWide 3 z
wide_3 (pos n) h =
    let x : low_bytes w64 3 (pos n) ≡ n = mod-eq_of_lt (omega arith) in
    let small : ltb n (2 ^ 23) ≡ true = lt-ltb _ _ h in
    record { low = omega arith; high = omega arith; fits = rw x (omega arith); back = rw (x, small) refl }
wide_3 (negsuc n) h =
    let x : low_bytes w64 3 (negsuc n) ≡ 2 ^ 24 - suc n = omega arith in
    let large : ltb (2 ^ 24 - suc n) (2 ^ 23) ≡ false = le-ltb _ _ (omega arith) in
    let value : pos (2 ^ 24 - suc n) -ℤ pos (2 ^ 24) ≡ negsuc n = omega (arith, ints) in
    record { low = omega arith; high = omega arith; fits = rw x (omega arith); back = rw (x, large) value }

pub wide_4 : (z : ℤ) → magnitude z < 2 ^ 31 → IsWide 4 z
wide_4 (pos n) h =
    let x : low_bytes w64 4 (pos n) ≡ n = mod-eq_of_lt (omega arith) in
    let small : ltb n (2 ^ 31) ≡ true = lt-ltb _ _ h in
    record { low = omega arith; high = omega arith; fits = rw x (omega arith); back = rw (x, small) refl }
wide_4 (negsuc n) h =
    let x : low_bytes w64 4 (negsuc n) ≡ 2 ^ 32 - suc n = omega arith in
    let large : ltb (2 ^ 32 - suc n) (2 ^ 31) ≡ false = le-ltb _ _ (omega arith) in
    let value : pos (2 ^ 32 - suc n) -ℤ pos (2 ^ 32) ≡ negsuc n = omega (arith, ints) in
    record { low = omega arith; high = omega arith; fits = rw x (omega arith); back = rw (x, large) value }

pub wide_5 : (z : ℤ) → magnitude z < 2 ^ 39 → IsWide 5 z
wide_5 (pos n) h =
    let x : low_bytes w64 5 (pos n) ≡ n = mod-eq_of_lt (omega arith) in
    let small : ltb n (2 ^ 39) ≡ true = lt-ltb _ _ h in
    record { low = omega arith; high = omega arith; fits = rw x (omega arith); back = rw (x, small) refl }
wide_5 (negsuc n) h =
    let x : low_bytes w64 5 (negsuc n) ≡ 2 ^ 40 - suc n = omega arith in
    let large : ltb (2 ^ 40 - suc n) (2 ^ 39) ≡ false = le-ltb _ _ (omega arith) in
    let value : pos (2 ^ 40 - suc n) -ℤ pos (2 ^ 40) ≡ negsuc n = omega (arith, ints) in
    record { low = omega arith; high = omega arith; fits = rw x (omega arith); back = rw (x, large) value }

pub wide_6 : (z : ℤ) → magnitude z < 2 ^ 47 → IsWide 6 z
wide_6 (pos n) h =
    let x : low_bytes w64 6 (pos n) ≡ n = mod-eq_of_lt (omega arith) in
    let small : ltb n (2 ^ 47) ≡ true = lt-ltb _ _ h in
    record { low = omega arith; high = omega arith; fits = rw x (omega arith); back = rw (x, small) refl }
wide_6 (negsuc n) h =
    let x : low_bytes w64 6 (negsuc n) ≡ 2 ^ 48 - suc n = omega arith in
    let large : ltb (2 ^ 48 - suc n) (2 ^ 47) ≡ false = le-ltb _ _ (omega arith) in
    let value : pos (2 ^ 48 - suc n) -ℤ pos (2 ^ 48) ≡ negsuc n = omega (arith, ints) in
    record { low = omega arith; high = omega arith; fits = rw x (omega arith); back = rw (x, large) value }

pub wide_7 : (z : ℤ) → magnitude z < 2 ^ 55 → IsWide 7 z
wide_7 (pos n) h =
    let x : low_bytes w64 7 (pos n) ≡ n = mod-eq_of_lt (omega arith) in
    let small : ltb n (2 ^ 55) ≡ true = lt-ltb _ _ h in
    record { low = omega arith; high = omega arith; fits = rw x (omega arith); back = rw (x, small) refl }
wide_7 (negsuc n) h =
    let x : low_bytes w64 7 (negsuc n) ≡ 2 ^ 56 - suc n = omega arith in
    let large : ltb (2 ^ 56 - suc n) (2 ^ 55) ≡ false = le-ltb _ _ (omega arith) in
    let value : pos (2 ^ 56 - suc n) -ℤ pos (2 ^ 56) ≡ negsuc n = omega (arith, ints) in
    record { low = omega arith; high = omega arith; fits = rw x (omega arith); back = rw (x, large) value }

pub wide_8 : (z : ℤ) → magnitude z < 2 ^ 63 → IsWide 8 z
wide_8 (pos n) h =
    let x : low_bytes w64 8 (pos n) ≡ n = mod-eq_of_lt (omega arith) in
    let small : ltb n (2 ^ 63) ≡ true = lt-ltb _ _ h in
    record { low = omega arith; high = omega arith; fits = rw x (omega arith); back = rw (x, small) refl }
wide_8 (negsuc n) h =
    let x : low_bytes w64 8 (negsuc n) ≡ 2 ^ 64 - suc n = omega arith in
    let large : ltb (2 ^ 64 - suc n) (2 ^ 63) ≡ false = le-ltb _ _ (omega arith) in
    let value : pos (2 ^ 64 - suc n) -ℤ pos (2 ^ 64) ≡ negsuc n = omega (arith, ints) in
    record { low = omega arith; high = omega arith; fits = rw x (omega arith); back = rw (x, large) value }

pub wide_is : (z : ℤ) → magnitude z < 2 ^ 63 → IsWide (wide_length z) z
wide_is z h =
    cond_both (ltb (magnitude z) (2 ^ 15)) 2 _ (λ n. IsWide n z) (λ e. wide_2 z (ltb-true _ _ e)) (λ e2.
    cond_both (ltb (magnitude z) (2 ^ 23)) 3 _ (λ n. IsWide n z) (λ e. wide_3 z (ltb-true _ _ e)) (λ e3.
    cond_both (ltb (magnitude z) (2 ^ 31)) 4 _ (λ n. IsWide n z) (λ e. wide_4 z (ltb-true _ _ e)) (λ e4.
    cond_both (ltb (magnitude z) (2 ^ 39)) 5 _ (λ n. IsWide n z) (λ e. wide_5 z (ltb-true _ _ e)) (λ e5.
    cond_both (ltb (magnitude z) (2 ^ 47)) 6 _ (λ n. IsWide n z) (λ e. wide_6 z (ltb-true _ _ e)) (λ e6.
    cond_both (ltb (magnitude z) (2 ^ 55)) 7 _ (λ n. IsWide n z) (λ e. wide_7 z (ltb-true _ _ e)) (λ e7.
    wide_8 z h))))))

-- the shortest spelling of a value is read again, whatever follows
pub field_is : (tag : ℕ) (z : ℤ) → tag < 8 → magnitude z < 2 ^ 63 → IsField tag (field tag z) z
unfolding field
field_is tag (pos n) t h =
    cond_both (ltb n 16) _ _ (λ text. IsField tag text (pos n)) (λ e. short_field tag n t (ltb-true _ _ e)) (λ e1.
    cond_both (ltb n 2048) _ _ (λ text. IsField tag text (pos n)) (λ e. middle_field tag n t (ltb-true _ _ e)) (λ e2.
    wide_field tag (wide_length (pos n)) (pos n) t (wide_is (pos n) h)))
field_is tag (negsuc n) t h = wide_field tag (wide_length (negsuc n)) (negsuc n) t (wide_is (negsuc n) h)
