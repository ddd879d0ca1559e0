-- The bytes that are written for a term spell it.
use Rattle.std.proofs.Common.{◌≡◌, ℕ, suc, ◌≤◌, ◌<◌, ◌^◌, Bool, true, false, cond, ltb, List, [], ◌∷◌, ◌++◌, length, take, refl, sym, ap, subst, arith, ℤ, pos, negsuc, neg_ℤ, ◌≤ℤ◌, ◌<ℤ◌, unsigned_abs, FitsSigned, map, ◌&&◌, ltb-true}
use Rattle.std.specs.List.{All, flat_map}
use Rattle.std.specs.Int.{to_be_bytes, to_le_bytes, cast_unsigned, w16, w32, w64}
use Rattle.std.proofs.lemmas.List.Elements.{All-head, All-tail}
use Rattle.std.proofs.lemmas.Int.{ints, by_lt_z, to_z-of_z}
use Rattle.std.proofs.Math.Facts.{Fits-of_z}
use Rattle.std.proofs.lemmas.Nat.{from_be_bytes-to_be_bytes_2, from_be_bytes-to_be_bytes_4}
use Rattle.std.proofs.lemmas.Bool.{and_parts}
use Rattle.beam_model.specs.Prelude.{IsHalf, little, IsSigned, plus_sign, minus_sign, SpellsAtom, small_atom_utf8_ext, atom_utf8_ext, AreWords, no_words, one_word, SpellsTerm, small_integer_ext, integer_ext, small_big_ext, nil_ext, utf8_atom, new_pid_ext, newer_reference_ext, small_tuple_ext, large_tuple_ext, string_ext, list_ext, SpellsAll, no_elements, one_element, SpellsList, only_tail, head_before, IsExternal, byte_count, written_big, sign_of, written_integer, written_atom, written_pid, written_reference, tuple_front, is_byte, byte_of, is_byte_list, bytes_of_list, pair_count, written_list, written_part, all_written, external_bytes}
use Rattle.beam_term.specs.Prelude.{IsAtomText, AreReferenceWords, TermValue, Terms, int_term, atom_term, reference_term, pid_term, nil_term, pair_term, tuple_term, no_terms, more_terms, count_of, list_of, depth_of, items_depth, IsSmall, IsInRange, AreInRange, IsTerm}
use Rattle.beam_model.specs.External.{IsWord}
use Rattle.beam_etf.proofs.Integers.{small_is, word_below, word_above, big_below, big_above}
use Rattle.beam_etf.proofs.Lengths.{atom_short}

-- ---- numbers

word_of : (n : ℕ) → n < 2 ^ 32 → IsWord (to_be_bytes w32 n) n
word_of n h = record { wide = refl; value = from_be_bytes-to_be_bytes_4 n h }

half_of : (n : ℕ) → n < 2 ^ 16 → IsHalf (to_be_bytes w16 n) n
half_of n h = record { wide = refl; value = from_be_bytes-to_be_bytes_2 n h }

abbrev digits_of : ℕ → List ℕ
digits_of n = take (byte_count n) (to_le_bytes w64 n)

-- by how many bytes the magnitude takes
counted : (n : ℕ) → n < 2 ^ 64 → (length (digits_of n) ≡ byte_count n) × (little (digits_of n) ≡ n)
counted n h = by4 (ltb n (2 ^ 32)) (ltb n (2 ^ 40)) (ltb n (2 ^ 48)) (ltb n (2 ^ 56)) refl refl refl refl
  where
    by4 : (a b c d : Bool) → ltb n (2 ^ 32) ≡ a → ltb n (2 ^ 40) ≡ b → ltb n (2 ^ 48) ≡ c → ltb n (2 ^ 56) ≡ d
        → let count : ℕ = cond a 4 (cond b 5 (cond c 6 (cond d 7 8))) in (length (take count (to_le_bytes w64 n)) ≡ count) × (little (take count (to_le_bytes w64 n)) ≡ n)
    by4 true b c d p q r s = (refl, omega (arith, ltb-true n (2 ^ 32) p))
    by4 false true c d p q r s = (refl, omega (arith, ltb-true n (2 ^ 40) q))
    by4 false false true d p q r s = (refl, omega (arith, ltb-true n (2 ^ 48) r))
    by4 false false false true p q r s = (refl, omega (arith, ltb-true n (2 ^ 56) s))
    by4 false false false false p q r s = (refl, omega (arith, h))

-- ---- integers

signed_so : (z : ℤ) → IsSigned (sign_of z) (unsigned_abs z) z
signed_so (pos n) = plus_sign n
signed_so (negsuc n) = minus_sign (suc n)

abs_small : (z : ℤ) → IsSmall z → unsigned_abs z < 2 ^ 64
abs_small (pos n) h = omega (arith, ints, h.1)
abs_small (negsuc n) h = omega (arith, ints, h.0)

big_spelled : (z : ℤ) → IsSmall z → SpellsTerm (written_big (sign_of z) (unsigned_abs z)) (int_term z)
big_spelled z h =
    let k = counted (unsigned_abs z) (abs_small z h) in
    subst (λ (n : ℕ). SpellsTerm (110 ∷ n ∷ sign_of z ∷ digits_of (unsigned_abs z)) (int_term z)) k.0
    (small_big_ext (sign_of z) (digits_of (unsigned_abs z)) z (subst (λ (n : ℕ). IsSigned (sign_of z) n z) (sym k.1) (signed_so z)) h)

below_32 : (z : ℤ) → FitsSigned w32 z → cast_unsigned w32 z < 2 ^ 32
below_32 z h = (Fits-of_z h).fits

word_spelled : (z : ℤ) → FitsSigned w32 z → SpellsTerm (98 ∷ to_be_bytes w32 (cast_unsigned w32 z)) (int_term z)
word_spelled z h =
    subst (λ (y : ℤ). SpellsTerm (98 ∷ to_be_bytes w32 (cast_unsigned w32 z)) (int_term y)) (to_z-of_z w32 z h)
    (integer_ext (to_be_bytes w32 (cast_unsigned w32 z)) (cast_unsigned w32 z) (word_of (cast_unsigned w32 z) (below_32 z h)))

word_fits : (z : ℤ) → neg_ℤ (pos (2 ^ 31)) ≤ℤ z → z <ℤ pos (2 ^ 31) → FitsSigned w32 z
word_fits (pos n) h k = record { sfits = omega (arith, ints, k) }
word_fits (negsuc n) h k = record { sfits = omega (arith, ints, h) }

abs_is : (z : ℤ) → pos 0 ≤ℤ z → pos (unsigned_abs z) ≡ z
abs_is (pos n) h = refl
abs_is (negsuc n) h = absurd (omega (arith, ints, h))

small_spelled : (z : ℤ) → pos 0 ≤ℤ z → SpellsTerm (97 ∷ unsigned_abs z ∷ []) (int_term z)
small_spelled z h = subst (λ (y : ℤ). SpellsTerm (97 ∷ unsigned_abs z ∷ []) (int_term y)) (abs_is z h) (small_integer_ext (unsigned_abs z))

abbrev Integer : ℤ → List ℕ → Type 0
Integer z bytes = SpellsTerm bytes (int_term z)

integer_spelled : (z : ℤ) → IsSmall z → SpellsTerm (written_integer z) (int_term z)
integer_spelled z h =
    by_lt_z z (neg_ℤ (pos (2 ^ 31))) (λ k. subst (Integer z) (sym (big_below z k)) (big_spelled z h))
    (λ k. by_lt_z z (pos 0) (λ l. subst (Integer z) (sym (word_below z k l)) (word_spelled z (word_fits z k (omega (arith, ints, l)))))
    (λ l. by_lt_z z (pos 256) (λ m. subst (Integer z) (sym (small_is z l m)) (small_spelled z l))
    (λ m. by_lt_z z (pos (2 ^ 31)) (λ n. subst (Integer z) (sym (word_above z m n)) (word_spelled z (word_fits z k n)))
    (λ n. subst (Integer z) (sym (big_above z n)) (big_spelled z h)))))

-- ---- atoms, pids and references

atom_spelled : (text : List ℕ) → IsAtomText text → SpellsAtom (written_atom text) text
unfolding written_atom
atom_spelled text h = by (ltb (length text) 256)
  where
    by : (b : Bool) → SpellsAtom (cond b (119 ∷ length text ∷ text) (118 ∷ (to_be_bytes w16 (length text) ++ text))) text
    by true = small_atom_utf8_ext text h
    by false = atom_utf8_ext (to_be_bytes w16 (length text)) text (half_of (length text) (omega (arith, atom_short text h))) h

pid_spelled : (node : List ℕ) (id serial creation : ℕ) → IsAtomText node → id < 2 ^ 32 → serial < 2 ^ 32 → creation < 2 ^ 32 → SpellsTerm (written_pid node id serial creation) (pid_term node id serial creation)
unfolding written_pid
pid_spelled node id serial creation h i s c =
    new_pid_ext (written_atom node) node (to_be_bytes w32 id) (to_be_bytes w32 serial) (to_be_bytes w32 creation) id serial creation (atom_spelled node h) (word_of id i) (word_of serial s) (word_of creation c)

words_spelled : (words : List ℕ) → All (λ word. word < 2 ^ 32) words → AreWords (flat_map (to_be_bytes w32) words) words
words_spelled [] fit = no_words
words_spelled (word ∷ words) fit =
    one_word (to_be_bytes w32 word) (flat_map (to_be_bytes w32) words) word words (word_of word (All-head (λ w. w < 2 ^ 32) word words fit))
    (words_spelled words (All-tail (λ w. w < 2 ^ 32) word words fit))

reference_spelled : (node : List ℕ) (creation : ℕ) (words : List ℕ) → IsAtomText node → creation < 2 ^ 32 → AreReferenceWords words → SpellsTerm (written_reference node creation words) (reference_term node creation words)
unfolding written_reference
reference_spelled node creation words h c w =
    newer_reference_ext (to_be_bytes w16 (length words)) (written_atom node) node (to_be_bytes w32 creation) (flat_map (to_be_bytes w32) words) words creation
    (half_of (length words) (omega (arith, w.few))) w.some w.few (atom_spelled node h) (word_of creation c) (words_spelled words w.fit)

-- ---- lists and tuples

pairs_deep : (t : TermValue) → pair_count t ≤ depth_of t
pairs_deep (int_term n) = omega arith
pairs_deep (atom_term text) = omega arith
pairs_deep (reference_term node creation words) = omega arith
pairs_deep (pid_term node id serial creation) = omega arith
pairs_deep nil_term = omega arith
pairs_deep (pair_term h t) = omega (arith, pairs_deep t)
pairs_deep (tuple_term xs) = omega arith

text_long : (t : TermValue) → length (bytes_of_list t) ≡ pair_count t
text_long (int_term n) = refl
text_long (atom_term text) = refl
text_long (reference_term node creation words) = refl
text_long (pid_term node id serial creation) = refl
text_long nil_term = refl
text_long (pair_term h t) = ap suc (text_long t)
text_long (tuple_term xs) = refl

byte_is : (t : TermValue) → is_byte t ≡ true → int_term (pos (byte_of t)) ≡ t
byte_is (int_term (pos n)) e = refl
byte_is (int_term (negsuc n)) e = absurd cc
byte_is (atom_term text) e = absurd cc
byte_is (reference_term node creation words) e = absurd cc
byte_is (pid_term node id serial creation) e = absurd cc
byte_is nil_term e = absurd cc
byte_is (pair_term h t) e = absurd cc
byte_is (tuple_term xs) e = absurd cc

text_is : (t : TermValue) → is_byte_list t ≡ true → list_of (map (λ byte. int_term (pos byte)) (bytes_of_list t)) ≡ t
text_is (int_term n) e = absurd cc
text_is (atom_term text) e = absurd cc
text_is (reference_term node creation words) e = absurd cc
text_is (pid_term node id serial creation) e = absurd cc
text_is nil_term e = refl
text_is (pair_term h t) e = let k = and_parts (is_byte h) (is_byte_list t) e in λ i. pair_term (byte_is h k.0 i) (text_is t k.1 i)
text_is (tuple_term xs) e = absurd cc

list_spelled : (t : TermValue) (elements : List ℕ) (n : ℕ) → pair_count t ≡ suc n → depth_of t ≤ 4096 → SpellsList (suc n) elements t → SpellsTerm (written_list t elements) t
unfolding written_list
list_spelled t elements n c d s = by (is_byte_list t && ltb (pair_count t) 65536) refl
  where
    by : (b : Bool) → (is_byte_list t && ltb (pair_count t) 65536) ≡ b
        → SpellsTerm (cond b (107 ∷ (to_be_bytes w16 (pair_count t) ++ bytes_of_list t)) (108 ∷ (to_be_bytes w32 (pair_count t) ++ elements))) t
    by true e =
        let k = and_parts (is_byte_list t) (ltb (pair_count t) 65536) e in
        let half : IsHalf (to_be_bytes w16 (pair_count t)) (length (bytes_of_list t)) =
        subst (λ (m : ℕ). IsHalf (to_be_bytes w16 (pair_count t)) m) (sym (text_long t)) (half_of (pair_count t) (omega (arith, pairs_deep t))) in
        subst (λ (u : TermValue). SpellsTerm (107 ∷ (to_be_bytes w16 (pair_count t) ++ bytes_of_list t)) u) (text_is t k.0) (string_ext (to_be_bytes w16 (pair_count t)) (bytes_of_list t) half)
    by false e = list_ext (to_be_bytes w32 (pair_count t)) elements n t (subst (λ (m : ℕ). IsWord (to_be_bytes w32 (pair_count t)) m) c (word_of (pair_count t) (omega (arith, pairs_deep t)))) s

tuple_spelled : (xs : Terms) (body : List ℕ) → count_of xs < 2 ^ 32 → SpellsAll body xs → SpellsTerm (tuple_front (count_of xs) ++ body) (tuple_term xs)
unfolding tuple_front
tuple_spelled xs body h s = by (ltb (count_of xs) 256)
  where
    by : (b : Bool) → SpellsTerm (cond b (104 ∷ count_of xs ∷ []) (105 ∷ to_be_bytes w32 (count_of xs)) ++ body) (tuple_term xs)
    by true = small_tuple_ext body xs s
    by false = large_tuple_ext (to_be_bytes w32 (count_of xs)) body xs (word_of (count_of xs) h) s

mutual
  pub part_spelled : (t : TermValue) → IsInRange t → depth_of t ≤ 4096 → SpellsTerm (written_part false t) t
  part_spelled (int_term n) h d = integer_spelled n h
  part_spelled (atom_term text) h d = utf8_atom (written_atom text) text (atom_spelled text h)
  part_spelled (reference_term node creation words) h d = reference_spelled node creation words h.0 h.1 h.2
  part_spelled (pid_term node id serial creation) h d = pid_spelled node id serial creation h.0 h.1 h.2 h.3
  part_spelled nil_term h d = nil_ext
  part_spelled (pair_term x t) h d =
      list_spelled (pair_term x t) (written_part false x ++ written_part true t) (pair_count t) refl d
      (head_before (pair_count t) (written_part false x) (written_part true t) x t (part_spelled x h.0 (omega arith)) (rest_spelled t h.1 (omega arith)))
  part_spelled (tuple_term xs) h d = tuple_spelled xs (all_written xs) h.0 (all_spelled xs h.1 (omega arith))

  pub rest_spelled : (t : TermValue) → IsInRange t → depth_of t ≤ 4096 → SpellsList (pair_count t) (written_part true t) t
  rest_spelled (int_term n) h d = only_tail (written_integer n) (int_term n) (integer_spelled n h)
  rest_spelled (atom_term text) h d = only_tail (written_atom text) (atom_term text) (utf8_atom (written_atom text) text (atom_spelled text h))
  rest_spelled (reference_term node creation words) h d =
      only_tail (written_reference node creation words) (reference_term node creation words) (reference_spelled node creation words h.0 h.1 h.2)
  rest_spelled (pid_term node id serial creation) h d = only_tail (written_pid node id serial creation) (pid_term node id serial creation) (pid_spelled node id serial creation h.0 h.1 h.2 h.3)
  rest_spelled nil_term h d = only_tail (106 ∷ []) nil_term nil_ext
  rest_spelled (pair_term x t) h d =
      head_before (pair_count t) (written_part false x) (written_part true t) x t (part_spelled x h.0 (omega arith)) (rest_spelled t h.1 (omega arith))
  rest_spelled (tuple_term xs) h d =
      only_tail (tuple_front (count_of xs) ++ all_written xs) (tuple_term xs) (tuple_spelled xs (all_written xs) h.0 (all_spelled xs h.1 (omega arith)))

  pub all_spelled : (xs : Terms) → AreInRange xs → items_depth xs ≤ 4096 → SpellsAll (all_written xs) xs
  all_spelled no_terms h d = no_elements
  all_spelled (more_terms x xs) h d = one_element (written_part false x) (all_written xs) x xs (part_spelled x h.0 (omega arith)) (all_spelled xs h.1 (omega arith))

pub written_spelled : (t : TermValue) → IsTerm t → IsExternal (external_bytes t) t
written_spelled t h = record { body = written_part false t; versioned = refl; spelled = part_spelled t h.in_range h.shallow; shallow = h.shallow }
