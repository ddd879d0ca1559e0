-- No spelling is shorter than the one that is written.
use Rattle.std.proofs.Common.{◌≡◌, ℕ, zero, suc, ◌+◌, ◌-◌, ◌*◌, ◌/◌, ◌%◌, ◌^◌, ◌<◌, ◌≤◌, ℤ, pos, negsuc, ◌-ℤ◌, true, false, cond, ltb, eqb, List, [], ◌∷◌, ◌++◌, length, get_or, drop, Result, Ok, Err, refl, ap, subst, arith, inl, inr, ltb-true, ltb-false, lt-ltb, ne_eqb, length-append, length-drop, get_or-drop}
use Rattle.std.specs.Int.{w64}
use Rattle.std.proofs.lemmas.Bool.{eqb-false, cond_both}
use Rattle.std.proofs.lemmas.Int.{ints}
use Rattle.beam_lemmas.proofs.Tests.{chosen}
use Rattle.beam_lemmas.proofs.Steps.{bind_ok}
use Rattle.byteorder.specs.Endian.{big_number, twos_complement, low_bytes}
use Rattle.byteorder.specs.Numbers.{big_from-lt, length-bytes_high_first}
use Rattle.beam_model.specs.declared.compact.CompactTag.{CompactTag}
use Rattle.beam_model.specs.declared.compact.Compact.{Compact}
use Rattle.beam_model.specs.declared.compact.Compact.TheVariants.{Number, Integer, X, Y, Label, Literal}
use Rattle.beam_model.specs.declared.compact.CompactOperand.{CompactOperand}
use Rattle.beam_model.specs.Prelude.{OperandFault, unsupported_operand, compact_tag, eleven_bits_at, wide_at, value_at, natural, is_small, natural_at, compact_integer_at, number_at, atom_or_nil, register_of_tag, register_at, extended_of, single_of_tag, single_at, members_at, compact_list_at, as_operand, is_one, operand_of_tag, SpellsOperand, magnitude, wide_length, wide_of, field, single_spelling, members_spelling, spelling}
use Rattle.beam_model.specs.declared.compact.CompactTag.TheVariants as tag
use Rattle.beam_model.specs.declared.compact.CompactOperand.TheVariants as operand
use Rattle.beam_model.specs.Compact.{truncated, integer_too_large, ◌>>=◌}
use Rattle.beam_operand.proofs.Prefix.{ok_is}

abbrev pub IsBytes : List ℕ → Type 0
IsBytes bytes = (i : ℕ) → get_or bytes i 0 < 256

abbrev found : {A : Type 0} → A → Result A OperandFault
found x = Ok x

-- ---- lengths of fields

length_short : (tag n : ℕ) → n < 16 → length (field tag (pos n)) ≤ 1
unfolding field
length_short tag n h = let short : ltb n 16 ≡ true = lt-ltb n 16 h in rw short (omega arith)

length_middle : (tag n : ℕ) → n < 2048 → length (field tag (pos n)) ≤ 2
unfolding field
length_middle tag n h =
    let middle : ltb n 2048 ≡ true = lt-ltb n 2048 h in
    cond_both (ltb n 16) ((n * 16 + tag) ∷ []) (cond (ltb n 2048) ((n / 256 * 32 + 8 + tag) ∷ n % 256 ∷ []) (wide_of (wide_length (pos n)) tag (pos n))) (λ text. length text ≤ 2) (λ e. omega arith) (λ e. rw middle (omega arith))

length_wide_of : (n tag : ℕ) (z : ℤ) → length (wide_of n tag z) ≡ suc n
length_wide_of n tag z = ap suc (length-bytes_high_first n (low_bytes w64 n z))

length_wide : (n tag : ℕ) (z : ℤ) → 2 ≤ n → wide_length z ≤ n → length (field tag z) ≤ suc n
unfolding field
length_wide n tag (pos m) two h =
    cond_both (ltb m 16) ((m * 16 + tag) ∷ []) (cond (ltb m 2048) ((m / 256 * 32 + 8 + tag) ∷ m % 256 ∷ []) (wide_of (wide_length (pos m)) tag (pos m))) (λ text. length text ≤ suc n) (λ e. omega arith) (λ e.
    cond_both (ltb m 2048) ((m / 256 * 32 + 8 + tag) ∷ m % 256 ∷ []) (wide_of (wide_length (pos m)) tag (pos m)) (λ text. length text ≤ suc n) (λ d. omega arith) (λ d.
    omega (arith, length_wide_of (wide_length (pos m)) tag (pos m))))
length_wide n tag (negsuc m) two h = omega (arith, length_wide_of (wide_length (negsuc m)) tag (negsuc m))

negative : (x whole : ℕ) → x < whole → pos x -ℤ pos whole ≡ negsuc (whole - suc x)
negative x whole h = omega (arith, ints)

twos_2 : (x : ℕ) → x < 256 ^ 2 → magnitude (twos_complement 2 x) < 2 ^ 15
twos_2 x h =
    cond_both (ltb x (2 ^ 15)) (pos x) (pos x -ℤ pos (2 ^ 16)) (λ z. magnitude z < 2 ^ 15) (λ e. ltb-true _ _ e)
    (λ e. let high : 2 ^ 15 ≤ x = ltb-false _ _ e in rw (negative x (2 ^ 16) (omega arith)) (omega arith))

holds_2 : (z : ℤ) → magnitude z < 2 ^ 15 → wide_length z ≤ 2
holds_2 z h =
    cond_both (ltb (magnitude z) (2 ^ 15)) 2 _ (λ n. n ≤ 2) (λ e. omega arith) (λ e. absurd (omega (arith, ltb-false _ _ e)))

twos_3 : (x : ℕ) → x < 256 ^ 3 → magnitude (twos_complement 3 x) < 2 ^ 23
twos_3 x h =
    cond_both (ltb x (2 ^ 23)) (pos x) (pos x -ℤ pos (2 ^ 24)) (λ z. magnitude z < 2 ^ 23) (λ e. ltb-true _ _ e)
    (λ e. let high : 2 ^ 23 ≤ x = ltb-false _ _ e in rw (negative x (2 ^ 24) (omega arith)) (omega arith))

holds_3 : (z : ℤ) → magnitude z < 2 ^ 23 → wide_length z ≤ 3
holds_3 z h =
    cond_both (ltb (magnitude z) (2 ^ 15)) 2 _ (λ n. n ≤ 3) (λ e. omega arith) (λ e2.
    cond_both (ltb (magnitude z) (2 ^ 23)) 3 _ (λ n. n ≤ 3) (λ e. omega arith) (λ e. absurd (omega (arith, ltb-false _ _ e))))

twos_4 : (x : ℕ) → x < 256 ^ 4 → magnitude (twos_complement 4 x) < 2 ^ 31
twos_4 x h =
    cond_both (ltb x (2 ^ 31)) (pos x) (pos x -ℤ pos (2 ^ 32)) (λ z. magnitude z < 2 ^ 31) (λ e. ltb-true _ _ e)
    (λ e. let high : 2 ^ 31 ≤ x = ltb-false _ _ e in rw (negative x (2 ^ 32) (omega arith)) (omega arith))

holds_4 : (z : ℤ) → magnitude z < 2 ^ 31 → wide_length z ≤ 4
holds_4 z h =
    cond_both (ltb (magnitude z) (2 ^ 15)) 2 _ (λ n. n ≤ 4) (λ e. omega arith) (λ e2.
    cond_both (ltb (magnitude z) (2 ^ 23)) 3 _ (λ n. n ≤ 4) (λ e. omega arith) (λ e3.
    cond_both (ltb (magnitude z) (2 ^ 31)) 4 _ (λ n. n ≤ 4) (λ e. omega arith) (λ e. absurd (omega (arith, ltb-false _ _ e)))))

twos_5 : (x : ℕ) → x < 256 ^ 5 → magnitude (twos_complement 5 x) < 2 ^ 39
twos_5 x h =
    cond_both (ltb x (2 ^ 39)) (pos x) (pos x -ℤ pos (2 ^ 40)) (λ z. magnitude z < 2 ^ 39) (λ e. ltb-true _ _ e)
    (λ e. let high : 2 ^ 39 ≤ x = ltb-false _ _ e in rw (negative x (2 ^ 40) (omega arith)) (omega arith))

holds_5 : (z : ℤ) → magnitude z < 2 ^ 39 → wide_length z ≤ 5
holds_5 z h =
    cond_both (ltb (magnitude z) (2 ^ 15)) 2 _ (λ n. n ≤ 5) (λ e. omega arith) (λ e2.
    cond_both (ltb (magnitude z) (2 ^ 23)) 3 _ (λ n. n ≤ 5) (λ e. omega arith) (λ e3.
    cond_both (ltb (magnitude z) (2 ^ 31)) 4 _ (λ n. n ≤ 5) (λ e. omega arith) (λ e4.
    cond_both (ltb (magnitude z) (2 ^ 39)) 5 _ (λ n. n ≤ 5) (λ e. omega arith) (λ e. absurd (omega (arith, ltb-false _ _ e))))))

twos_6 : (x : ℕ) → x < 256 ^ 6 → magnitude (twos_complement 6 x) < 2 ^ 47
twos_6 x h =
    cond_both (ltb x (2 ^ 47)) (pos x) (pos x -ℤ pos (2 ^ 48)) (λ z. magnitude z < 2 ^ 47) (λ e. ltb-true _ _ e)
    (λ e. let high : 2 ^ 47 ≤ x = ltb-false _ _ e in rw (negative x (2 ^ 48) (omega arith)) (omega arith))

holds_6 : (z : ℤ) → magnitude z < 2 ^ 47 → wide_length z ≤ 6
holds_6 z h =
    cond_both (ltb (magnitude z) (2 ^ 15)) 2 _ (λ n. n ≤ 6) (λ e. omega arith) (λ e2.
    cond_both (ltb (magnitude z) (2 ^ 23)) 3 _ (λ n. n ≤ 6) (λ e. omega arith) (λ e3.
    cond_both (ltb (magnitude z) (2 ^ 31)) 4 _ (λ n. n ≤ 6) (λ e. omega arith) (λ e4.
    cond_both (ltb (magnitude z) (2 ^ 39)) 5 _ (λ n. n ≤ 6) (λ e. omega arith) (λ e5.
    cond_both (ltb (magnitude z) (2 ^ 47)) 6 _ (λ n. n ≤ 6) (λ e. omega arith) (λ e. absurd (omega (arith, ltb-false _ _ e)))))))

twos_7 : (x : ℕ) → x < 256 ^ 7 → magnitude (twos_complement 7 x) < 2 ^ 55
twos_7 x h =
    cond_both (ltb x (2 ^ 55)) (pos x) (pos x -ℤ pos (2 ^ 56)) (λ z. magnitude z < 2 ^ 55) (λ e. ltb-true _ _ e)
    (λ e. let high : 2 ^ 55 ≤ x = ltb-false _ _ e in rw (negative x (2 ^ 56) (omega arith)) (omega arith))

holds_7 : (z : ℤ) → magnitude z < 2 ^ 55 → wide_length z ≤ 7
holds_7 z h =
    cond_both (ltb (magnitude z) (2 ^ 15)) 2 _ (λ n. n ≤ 7) (λ e. omega arith) (λ e2.
    cond_both (ltb (magnitude z) (2 ^ 23)) 3 _ (λ n. n ≤ 7) (λ e. omega arith) (λ e3.
    cond_both (ltb (magnitude z) (2 ^ 31)) 4 _ (λ n. n ≤ 7) (λ e. omega arith) (λ e4.
    cond_both (ltb (magnitude z) (2 ^ 39)) 5 _ (λ n. n ≤ 7) (λ e. omega arith) (λ e5.
    cond_both (ltb (magnitude z) (2 ^ 47)) 6 _ (λ n. n ≤ 7) (λ e. omega arith) (λ e6.
    cond_both (ltb (magnitude z) (2 ^ 55)) 7 _ (λ n. n ≤ 7) (λ e. omega arith) (λ e. absurd (omega (arith, ltb-false _ _ e))))))))

twos_8 : (x : ℕ) → x < 256 ^ 8 → magnitude (twos_complement 8 x) < 2 ^ 63
twos_8 x h =
    cond_both (ltb x (2 ^ 63)) (pos x) (pos x -ℤ pos (2 ^ 64)) (λ z. magnitude z < 2 ^ 63) (λ e. ltb-true _ _ e)
    (λ e. let high : 2 ^ 63 ≤ x = ltb-false _ _ e in rw (negative x (2 ^ 64) (omega arith)) (omega arith))

holds_8 : (z : ℤ) → magnitude z < 2 ^ 63 → wide_length z ≤ 8
holds_8 z h =
    cond_both (ltb (magnitude z) (2 ^ 15)) 2 _ (λ n. n ≤ 8) (λ e. omega arith) (λ e2.
    cond_both (ltb (magnitude z) (2 ^ 23)) 3 _ (λ n. n ≤ 8) (λ e. omega arith) (λ e3.
    cond_both (ltb (magnitude z) (2 ^ 31)) 4 _ (λ n. n ≤ 8) (λ e. omega arith) (λ e4.
    cond_both (ltb (magnitude z) (2 ^ 39)) 5 _ (λ n. n ≤ 8) (λ e. omega arith) (λ e5.
    cond_both (ltb (magnitude z) (2 ^ 47)) 6 _ (λ n. n ≤ 8) (λ e. omega arith) (λ e6.
    cond_both (ltb (magnitude z) (2 ^ 55)) 7 _ (λ n. n ≤ 8) (λ e. omega arith) (λ e7.
    omega arith))))))

wide_holds : (n x : ℕ) → 2 ≤ n → n ≤ 8 → x < 256 ^ n → wide_length (twos_complement n x) ≤ n
wide_holds zero x low high h = absurd (omega arith)
wide_holds (suc zero) x low high h = absurd (omega arith)
wide_holds (suc (suc zero)) x low high h = holds_2 (twos_complement 2 x) (twos_2 x h)
wide_holds (suc (suc (suc zero))) x low high h = holds_3 (twos_complement 3 x) (twos_3 x h)
wide_holds (suc (suc (suc (suc zero)))) x low high h = holds_4 (twos_complement 4 x) (twos_4 x h)
wide_holds (suc (suc (suc (suc (suc zero))))) x low high h = holds_5 (twos_complement 5 x) (twos_5 x h)
wide_holds (suc (suc (suc (suc (suc (suc zero)))))) x low high h = holds_6 (twos_complement 6 x) (twos_6 x h)
wide_holds (suc (suc (suc (suc (suc (suc (suc zero))))))) x low high h = holds_7 (twos_complement 7 x) (twos_7 x h)
wide_holds (suc (suc (suc (suc (suc (suc (suc (suc zero)))))))) x low high h = holds_8 (twos_complement 8 x) (twos_8 x h)
wide_holds (suc (suc (suc (suc (suc (suc (suc (suc (suc n))))))))) x low high h = absurd (omega arith)

-- ---- readers

-- an operand that was read has a spelling that is no longer than the bytes read
pub record Shorter (spelled : Result (List ℕ) OperandFault) (size : ℕ) (rest : List ℕ) : Type 0 where
  pub text : List ℕ
  pub is : spelled ≡ Ok text
  pub no_longer : length text + length rest ≤ size
  pub fits : IsBytes rest

-- a field's value, written again, and the bytes after it
record Field (size : ℕ) (z : ℤ) (rest : List ℕ) : Type 0 where
  no_longer : (tag : ℕ) → length (field tag z) + length rest ≤ size
  behind : length rest < size
  fits : IsBytes rest

field_of_pair : (size : ℕ) (p q : ℤ × List ℕ) → found p ≡ found q → Field size p.0 p.1 → Field size q.0 q.1
field_of_pair size p q e h = subst (λ (r : ℤ × List ℕ). Field size r.0 r.1) (ok_is {F = OperandFault} p q e) h

rest_fits : (b : ℕ) (bytes : List ℕ) → IsBytes (b ∷ bytes) → IsBytes bytes
rest_fits b bytes h i = h (suc i)

drop_fits : (n : ℕ) (bytes : List ℕ) → IsBytes bytes → IsBytes (drop n bytes)
drop_fits n bytes h i = rw get_or-drop (h (n + i))

eleven_field : (first : ℕ) (bytes : List ℕ) (q : ℤ × List ℕ) → first < 256 → IsBytes bytes → eleven_bits_at first bytes ≡ Ok q → Field (suc (length bytes)) q.0 q.1
eleven_field first [] q lt fits e = absurd cc
eleven_field first (c ∷ bytes) q lt fits e =
    let c_lt : c < 256 = fits 0 in
    let small : first / 32 * 256 + c < 2048 = omega arith in
    field_of_pair (suc (suc (length bytes))) (pos (first / 32 * 256 + c), bytes) q e
    (record { no_longer = λ t. omega (arith, length_middle t (first / 32 * 256 + c) small); behind = omega arith; fits = rest_fits c bytes fits })

wide_field : (n : ℕ) (bytes : List ℕ) (q : ℤ × List ℕ) → 2 ≤ n → n ≤ 8 → IsBytes bytes → wide_at n bytes ≡ Ok q → Field (suc (length bytes)) q.0 q.1
wide_field n bytes q low high fits e =
    elim (chosen (ltb (length bytes) n) (Err truncated) (Ok (twos_complement n (big_number n bytes), drop n bytes)) (Ok q) e) [
      | inl h ↦ let bad : Err truncated ≡ Ok q = h.1 in absurd cc
      | inr h ↦
          let long : n ≤ length bytes = ltb-false _ _ h.0 in
          let holds : wide_length (twos_complement n (big_number n bytes)) ≤ n = wide_holds n (big_number n bytes) low high (big_from-lt 0 n bytes fits) in
          field_of_pair (suc (length bytes)) (twos_complement n (big_number n bytes), drop n bytes) q h.1
          (record { no_longer = λ t. omega (arith, length_wide n t (twos_complement n (big_number n bytes)) low holds, length-drop n bytes); behind = omega (arith, length-drop n bytes); fits = drop_fits n bytes fits })
    ]

value_field : (first : ℕ) (bytes : List ℕ) (q : ℤ × List ℕ) → first < 256 → IsBytes bytes → value_at first bytes ≡ Ok q → Field (suc (length bytes)) q.0 q.1
unfolding value_at
value_field first bytes q lt fits e =
    elim (chosen (ltb (first % 16) 8) _ _ (Ok q) e) [
      | inl h ↦ field_of_pair (suc (length bytes)) (pos (first / 16), bytes) q h.1
          (record { no_longer = λ t. omega (arith, length_short t (first / 16) (omega arith)); behind = omega arith; fits = fits })
      | inr h ↦ elim (chosen (ltb (first % 32) 16) _ _ (Ok q) h.1) [
        | inl g ↦ eleven_field first bytes q lt fits g.1
        | inr g ↦ elim (chosen (eqb (first / 32) 7) _ _ (Ok q) g.1) [
          | inl f ↦ let bad : Err integer_too_large ≡ Ok q = f.1 in absurd cc
          | inr f ↦
              let some : first / 32 ≡ 7 → ⊥ = eqb-false _ _ f.0 in
              let below : first / 32 ≤ 6 = omega arith in
              wide_field (first / 32 + 2) bytes q (omega arith) (omega arith) fits f.1
        ]
      ]
    ]

-- a natural number's field
record Natural (size n : ℕ) (rest : List ℕ) : Type 0 where
  no_longer : (tag : ℕ) → length (field tag (pos n)) + length rest ≤ size
  below : n < 2 ^ 32
  fits : IsBytes rest

natural_from : (size : ℕ) (z : ℤ) (bytes : List ℕ) (q : ℕ × List ℕ) → Field size z bytes → natural z bytes ≡ Ok q → Natural size q.0 q.1
natural_from size (pos n) bytes q f e =
    elim (chosen (ltb n (2 ^ 32)) (Ok (n, bytes)) (Err integer_too_large) (Ok q) e) [
      | inl h ↦ subst (λ (r : ℕ × List ℕ). Natural size r.0 r.1) (ok_is {F = OperandFault} (n, bytes) q h.1)
          (record { no_longer = f.no_longer; below = ltb-true _ _ h.0; fits = f.fits })
      | inr h ↦ let bad : Err integer_too_large ≡ Ok q = h.1 in absurd cc
    ]
natural_from size (negsuc n) bytes q f e = absurd cc

natural_field : (first : ℕ) (bytes : List ℕ) (q : ℕ × List ℕ) → first < 256 → IsBytes bytes → natural_at first bytes ≡ Ok q → Natural (suc (length bytes)) q.0 q.1
unfolding natural_at
natural_field first bytes q lt fits e =
    let b = bind_ok (value_at first bytes) (λ v. natural v.0 v.1) q e in
    natural_from (suc (length bytes)) b.0.0 b.0.1 q (value_field first bytes b.0 lt fits b.1) b.2

number_field : (bytes : List ℕ) (q : ℕ × List ℕ) → IsBytes bytes → number_at bytes ≡ Ok q → Natural (length bytes) q.0 q.1
unfolding number_at
number_field [] q fits e = absurd cc
number_field (first ∷ bytes) q fits e =
    elim (chosen (eqb (first % 8) 0) (natural_at first bytes) (Err unsupported_operand) (Ok q) e) [
      | inl h ↦ natural_field first bytes q (fits 0) (rest_fits first bytes fits) h.1
      | inr h ↦ let bad : Err unsupported_operand ≡ Ok q = h.1 in absurd cc
    ]

abbrev IsShort : ℕ → Compact × List ℕ → Type 0
IsShort size q = Shorter (single_spelling q.0) size q.1

short_of_pair : (size : ℕ) (p q : Compact × List ℕ) → found p ≡ found q → IsShort size p → IsShort size q
short_of_pair size p q e h = subst (IsShort size) (ok_is {F = OperandFault} p q e) h

number_short : (size n : ℕ) (rest : List ℕ) → Natural size n rest → IsShort size (Number n, rest)
unfolding single_spelling
number_short size n rest h = record { text = field 0 (pos n); is = refl; no_longer = h.no_longer 0; fits = h.fits }

label_short : (size n : ℕ) (rest : List ℕ) → Natural size n rest → IsShort size (Label n, rest)
unfolding single_spelling
label_short size n rest h = record { text = field 5 (pos n); is = refl; no_longer = h.no_longer 5; fits = h.fits }

x_short : (size n : ℕ) (rest : List ℕ) → Natural size n rest → IsShort size (X n, rest)
unfolding single_spelling
x_short size n rest h = record { text = field 3 (pos n); is = refl; no_longer = h.no_longer 3; fits = h.fits }

y_short : (size n : ℕ) (rest : List ℕ) → Natural size n rest → IsShort size (Y n, rest)
unfolding single_spelling
y_short size n rest h = record { text = field 4 (pos n); is = refl; no_longer = h.no_longer 4; fits = h.fits }

atom_short : (size n : ℕ) (rest : List ℕ) → Natural size n rest → IsShort size (atom_or_nil n, rest)
unfolding single_spelling
atom_short size zero rest h = record { text = field 2 (pos 0); is = refl; no_longer = h.no_longer 2; fits = h.fits }
atom_short size (suc n) rest h =
    let some : eqb (suc n) 0 ≡ false = ne_eqb _ _ (λ e. omega arith) in
    record { text = field 2 (pos (suc n)); is = rw some refl; no_longer = h.no_longer 2; fits = h.fits }

integer_short : (first : ℕ) (bytes : List ℕ) (q : ℤ × List ℕ) → first < 256 → IsBytes bytes → compact_integer_at first bytes ≡ Ok q → IsShort (suc (length bytes)) (Integer q.0, q.1)
unfolding single_spelling compact_integer_at
integer_short first bytes q lt fits e =
    let b = bind_ok (value_at first bytes) (λ v. cond (is_small v.0) (Ok v) (Err integer_too_large)) q e in
    let f = value_field first bytes b.0 lt fits b.1 in
    elim (chosen (is_small b.0.0) (Ok b.0) (Err integer_too_large) (Ok q) b.2) [
      | inl h ↦ subst (λ (r : ℤ × List ℕ). IsShort (suc (length bytes)) (Integer r.0, r.1)) (ok_is {F = OperandFault} b.0 q h.1)
          (record { text = field 1 b.0.0; is = rw h.0 refl; no_longer = f.no_longer 1; fits = f.fits })
      | inr h ↦ let bad : Err integer_too_large ≡ Ok q = h.1 in absurd cc
    ]

-- a number as an operand
short_as : (f : ℕ → Compact) (first : ℕ) (bytes : List ℕ) (q : Compact × List ℕ) → first < 256 → IsBytes bytes
    → ((size n : ℕ) (rest : List ℕ) → Natural size n rest → IsShort size (f n, rest))
    → (natural_at first bytes >>= λ n. Ok (f n.0, n.1)) ≡ Ok q → IsShort (suc (length bytes)) q
short_as f first bytes q lt fits short e =
    let b = bind_ok (natural_at first bytes) (λ n. Ok (f n.0, n.1)) q e in
    short_of_pair (suc (length bytes)) (f b.0.0, b.0.1) q b.2 (short (suc (length bytes)) b.0.0 b.0.1 (natural_field first bytes b.0 lt fits b.1))

register_short : (kind : CompactTag) (first : ℕ) (bytes : List ℕ) (q : Compact × List ℕ) → first < 256 → IsBytes bytes → register_of_tag kind first bytes ≡ Ok q → IsShort (suc (length bytes)) q
unfolding register_of_tag
register_short tag.X first bytes q lt fits e = short_as X first bytes q lt fits x_short e
register_short tag.Y first bytes q lt fits e = short_as Y first bytes q lt fits y_short e
register_short tag.Number first bytes q lt fits e = absurd cc
register_short tag.Integer first bytes q lt fits e = absurd cc
register_short tag.Atom first bytes q lt fits e = absurd cc
register_short tag.Label first bytes q lt fits e = absurd cc
register_short tag.Character first bytes q lt fits e = absurd cc
register_short tag.Extended first bytes q lt fits e = absurd cc

register_at_short : (bytes : List ℕ) (q : Compact × List ℕ) → IsBytes bytes → register_at bytes ≡ Ok q → IsShort (length bytes) q
register_at_short [] q fits e = absurd cc
register_at_short (first ∷ bytes) q fits e = register_short (compact_tag first) first bytes q (fits 0) (rest_fits first bytes fits) e

literal_short : (bytes : List ℕ) (q : Compact × List ℕ) → IsBytes bytes → (number_at bytes >>= λ index. Ok (Literal index.0, index.1)) ≡ Ok q → IsShort (suc (length bytes)) q
unfolding single_spelling
literal_short bytes q fits e =
    let b = bind_ok (number_at bytes) (λ index. Ok (Literal index.0, index.1)) q e in
    let n = number_field bytes b.0 fits b.1 in
    short_of_pair (suc (length bytes)) (Literal b.0.0, b.0.1) q b.2
    (record { text = field 7 (pos 4) ++ field 0 (pos b.0.0); is = refl; no_longer = omega (arith, length-append (field 7 (pos 4)) (field 0 (pos b.0.0)), length_short 7 4 (omega arith), n.no_longer 0); fits = n.fits })

typed_short : (bytes : List ℕ) (q : Compact × List ℕ) → IsBytes bytes → (register_at bytes >>= λ register. number_at register.1 >>= λ type_index. Ok (register.0, type_index.1)) ≡ Ok q → IsShort (suc (length bytes)) q
typed_short bytes q fits e =
    let a = bind_ok (register_at bytes) (λ register. number_at register.1 >>= λ type_index. Ok (register.0, type_index.1)) q e in
    let b = bind_ok (number_at a.0.1) (λ type_index. Ok (a.0.0, type_index.1)) q a.2 in
    let r = register_at_short bytes a.0 fits a.1 in
    let n = number_field a.0.1 b.0 r.fits b.1 in
    short_of_pair (suc (length bytes)) (a.0.0, b.0.1) q b.2
    (record { text = r.text; is = r.is; no_longer = omega (arith, r.no_longer, n.no_longer 0); fits = n.fits })

extended_short : (z : ℤ) (bytes : List ℕ) (q : Compact × List ℕ) → IsBytes bytes → extended_of z bytes ≡ Ok q → IsShort (suc (length bytes)) q
unfolding extended_of
extended_short (pos n) bytes q fits e =
    elim (chosen (eqb n 4) _ _ (Ok q) e) [
      | inl h ↦ literal_short bytes q fits h.1
      | inr h ↦ elim (chosen (eqb n 5) _ _ (Ok q) h.1) [
        | inl g ↦ typed_short bytes q fits g.1
        | inr g ↦ let bad : Err unsupported_operand ≡ Ok q = g.1 in absurd cc
      ]
    ]
extended_short (negsuc n) bytes q fits e = absurd cc

shorter_size : (spelled : Result (List ℕ) OperandFault) (m n : ℕ) (rest : List ℕ) → m ≤ n → Shorter spelled m rest → Shorter spelled n rest
shorter_size spelled m n rest le s = record { text = s.text; is = s.is; no_longer = omega (arith, s.no_longer); fits = s.fits }

single_short : (kind : CompactTag) (first : ℕ) (bytes : List ℕ) (q : Compact × List ℕ) → first < 256 → IsBytes bytes → single_of_tag kind first bytes ≡ Ok q → IsShort (suc (length bytes)) q
unfolding single_of_tag
single_short tag.Number first bytes q lt fits e = short_as Number first bytes q lt fits number_short e
single_short tag.Integer first bytes q lt fits e =
    let b = bind_ok (compact_integer_at first bytes) (λ z. Ok (Integer z.0, z.1)) q e in
    short_of_pair (suc (length bytes)) (Integer b.0.0, b.0.1) q b.2 (integer_short first bytes b.0 lt fits b.1)
single_short tag.Atom first bytes q lt fits e = short_as atom_or_nil first bytes q lt fits atom_short e
single_short tag.X first bytes q lt fits e = register_short tag.X first bytes q lt fits e
single_short tag.Y first bytes q lt fits e = register_short tag.Y first bytes q lt fits e
single_short tag.Label first bytes q lt fits e = short_as Label first bytes q lt fits label_short e
single_short tag.Character first bytes q lt fits e = absurd cc
single_short tag.Extended first bytes q lt fits e =
    let b = bind_ok (value_at first bytes) (λ v. extended_of v.0 v.1) q e in
    let f = value_field first bytes b.0 lt fits b.1 in
    let behind : length b.0.1 < suc (length bytes) = f.behind in
    shorter_size (single_spelling q.0) (suc (length b.0.1)) (suc (length bytes)) q.1 (omega arith) (extended_short b.0.0 b.0.1 q f.fits b.2)

single_at_short : (bytes : List ℕ) (q : Compact × List ℕ) → IsBytes bytes → single_at bytes ≡ Ok q → IsShort (length bytes) q
single_at_short [] q fits e = absurd cc
single_at_short (first ∷ bytes) q fits e = single_short (compact_tag first) first bytes q (fits 0) (rest_fits first bytes fits) e

record Members (n size : ℕ) (q : List Compact × List ℕ) : Type 0 where
  count : length q.0 ≡ n
  short : Shorter (members_spelling q.0) size q.1

members_short : (n : ℕ) (bytes : List ℕ) (q : List Compact × List ℕ) → IsBytes bytes → members_at n bytes ≡ Ok q → Members n (length bytes) q
unfolding members_at members_spelling
members_short zero bytes q fits e =
    subst (Members 0 (length bytes)) (ok_is {F = OperandFault} ([], bytes) q e)
    (record { count = refl; short = record { text = []; is = refl; no_longer = omega arith; fits = fits } })
members_short (suc n) bytes q fits e =
    let a = bind_ok (single_at bytes) (λ member. members_at n member.1 >>= λ others. Ok (member.0 ∷ others.0, others.1)) q e in
    let b = bind_ok (members_at n a.0.1) (λ others. Ok (a.0.0 ∷ others.0, others.1)) q a.2 in
    let first = single_at_short bytes a.0 fits a.1 in
    let others = members_short n a.0.1 b.0 first.fits b.1 in
    subst (Members (suc n) (length bytes)) (ok_is {F = OperandFault} (a.0.0 ∷ b.0.0, b.0.1) q b.2)
    (record {
      count = ap suc others.count;
      short = record {
        text = first.text ++ others.short.text;
        is = rw (first.is, others.short.is) refl;
        no_longer = omega (arith, length-append first.text others.short.text, first.no_longer, others.short.no_longer);
        fits = others.short.fits;
      };
    })

list_short : (bytes : List ℕ) (q : CompactOperand × List ℕ) → IsBytes bytes → compact_list_at bytes ≡ Ok q → Shorter (spelling q.0) (suc (length bytes)) q.1
unfolding compact_list_at spelling
list_short bytes q fits e =
    let a = bind_ok (number_at bytes) (λ count. members_at count.0 count.1 >>= λ members. Ok (operand.List members.0, members.1)) q e in
    let b = bind_ok (members_at a.0.0 a.0.1) (λ members. Ok (operand.List members.0, members.1)) q a.2 in
    let n = number_field bytes a.0 fits a.1 in
    let m = members_short a.0.0 a.0.1 b.0 n.fits b.1 in
    let below : ltb (length b.0.0) (2 ^ 32) ≡ true = lt-ltb _ _ (let lt : a.0.0 < 2 ^ 32 = n.below in omega (arith, m.count)) in
    let size : length (field 0 (pos (length b.0.0))) + length a.0.1 ≤ length bytes = rw m.count (n.no_longer 0) in
    subst (λ (r : CompactOperand × List ℕ). Shorter (spelling r.0) (suc (length bytes)) r.1) (ok_is {F = OperandFault} (operand.List b.0.0, b.0.1) q b.2)
    (record {
      text = (field 7 (pos 1) ++ field 0 (pos (length b.0.0))) ++ m.short.text;
      is = rw (below, m.short.is) refl;
      no_longer = omega (arith, length-append (field 7 (pos 1) ++ field 0 (pos (length b.0.0))) m.short.text, length-append (field 7 (pos 1)) (field 0 (pos (length b.0.0))), length_short 7 1 (omega arith), m.short.no_longer);
      fits = m.short.fits;
    })

one_short : (r : Result (Compact × List ℕ) OperandFault) (size : ℕ) (q : CompactOperand × List ℕ) → ((p : Compact × List ℕ) → r ≡ Ok p → IsShort size p) → as_operand r ≡ Ok q → Shorter (spelling q.0) size q.1
unfolding spelling
one_short (Ok p) size q short e = subst (λ (r : CompactOperand × List ℕ). Shorter (spelling r.0) size r.1) (ok_is {F = OperandFault} (operand.One p.0, p.1) q e) (short p refl)
one_short (Err f) size q short e = absurd cc

operand_short : (kind : CompactTag) (first : ℕ) (bytes : List ℕ) (q : CompactOperand × List ℕ) → first < 256 → IsBytes bytes → operand_of_tag kind first bytes ≡ Ok q → Shorter (spelling q.0) (suc (length bytes)) q.1
unfolding operand_of_tag
operand_short tag.Number first bytes q lt fits e = one_short (single_of_tag tag.Number first bytes) (suc (length bytes)) q (λ p h. single_short tag.Number first bytes p lt fits h) e
operand_short tag.Integer first bytes q lt fits e = one_short (single_of_tag tag.Integer first bytes) (suc (length bytes)) q (λ p h. single_short tag.Integer first bytes p lt fits h) e
operand_short tag.Atom first bytes q lt fits e = one_short (single_of_tag tag.Atom first bytes) (suc (length bytes)) q (λ p h. single_short tag.Atom first bytes p lt fits h) e
operand_short tag.X first bytes q lt fits e = one_short (single_of_tag tag.X first bytes) (suc (length bytes)) q (λ p h. single_short tag.X first bytes p lt fits h) e
operand_short tag.Y first bytes q lt fits e = one_short (single_of_tag tag.Y first bytes) (suc (length bytes)) q (λ p h. single_short tag.Y first bytes p lt fits h) e
operand_short tag.Label first bytes q lt fits e = one_short (single_of_tag tag.Label first bytes) (suc (length bytes)) q (λ p h. single_short tag.Label first bytes p lt fits h) e
operand_short tag.Character first bytes q lt fits e = one_short (single_of_tag tag.Character first bytes) (suc (length bytes)) q (λ p h. single_short tag.Character first bytes p lt fits h) e
operand_short tag.Extended first bytes q lt fits e =
    let b = bind_ok (value_at first bytes) (λ v. cond (is_one v.0) (compact_list_at v.1) (as_operand (extended_of v.0 v.1))) q e in
    let f = value_field first bytes b.0 lt fits b.1 in
    let behind : length b.0.1 < suc (length bytes) = f.behind in
    elim (chosen (is_one b.0.0) (compact_list_at b.0.1) (as_operand (extended_of b.0.0 b.0.1)) (Ok q) b.2) [
      | inl h ↦ shorter_size (spelling q.0) (suc (length b.0.1)) (suc (length bytes)) q.1 (omega arith) (list_short b.0.1 q f.fits h.1)
      | inr h ↦ shorter_size (spelling q.0) (suc (length b.0.1)) (suc (length bytes)) q.1 (omega arith)
          (one_short (extended_of b.0.0 b.0.1) (suc (length b.0.1)) q (λ p g. extended_short b.0.0 b.0.1 p f.fits g) h.1)
    ]

shortest_by : (bytes : List ℕ) (v : CompactOperand) → IsBytes bytes → SpellsOperand bytes v → Shorter (spelling v) (length bytes) []
shortest_by [] v fits e = absurd cc
shortest_by (first ∷ bytes) v fits e = operand_short (compact_tag first) first bytes (v, []) (fits 0) (rest_fits first bytes fits) e

pub shortest : (other : List ℕ) (v : CompactOperand) → ((i : ℕ) → get_or other i 0 < 256) → SpellsOperand other v → (text : List ℕ) × (spelling v ≡ Ok text) × (length text ≤ length other)
shortest other v fits e = let s = shortest_by other v fits e in (s.text, s.is, omega (arith, s.no_longer))
