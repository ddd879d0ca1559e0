-- How long each form of the external format is, from what is written in it: of a text by recursion on its pairs, of words by recursion on them.
use Rattle.std.proofs.Common.{◌≡◌, ℕ, ◌+◌, ◌*◌, ◌^◌, ◌≤◌, true, false, List, [], ◌∷◌, ◌++◌, length, refl, ap, subst, ◌∙◌, arith, length-append, ℤ, pos, neg_ℤ, ◌≤ℤ◌, ◌<ℤ◌, unsigned_abs, length-take-le}
use Rattle.std.specs.List.{flat_map}
use Rattle.std.specs.Int.{to_be_bytes, to_le_bytes, w32, w64}
use Rattle.beam_etf.proofs.Integers.{small_is, word_below, word_above, big_below, big_above}
use Rattle.beam_etf.proofs.Lists.{string_is, list_is}
use Rattle.beam_model.specs.Prelude.{byte_count, is_byte_list, pair_count, bytes_of_list, sign_of, written_big, written_integer, written_atom, written_reference, written_part, all_written, tuple_front}
use Rattle.beam_term.specs.Prelude.{TermValue, int_term, atom_term, reference_term, pid_term, nil_term, pair_term, tuple_term, tuple_of, terms_of, count_of-terms_of}

words_length : (words : List ℕ) → length (flat_map (to_be_bytes w32) words) ≡ 4 * length words
words_length [] = refl
words_length (word ∷ words) = omega (arith, length-append (to_be_bytes w32 word) (flat_map (to_be_bytes w32) words), words_length words)

pub reference_length : (node : List ℕ) (creation : ℕ) (words : List ℕ) → length (written_reference node creation words) ≡ 7 + 4 * length words + length (written_atom node)
unfolding written_reference
reference_length node creation words =
    let others = flat_map (to_be_bytes w32) words in
    omega (arith, length-append (written_atom node ++ to_be_bytes w32 creation) others, length-append (written_atom node) (to_be_bytes w32 creation), words_length words)

big_length : (sign n : ℕ) → byte_count n ≤ 8 → length (written_big sign n) ≡ 3 + byte_count n
big_length sign n h = omega (arith, length-take-le (byte_count n) (to_le_bytes w64 n) h)

pub length_below : (z : ℤ) → z <ℤ neg_ℤ (pos (2 ^ 31)) → byte_count (unsigned_abs z) ≤ 8 → length (written_integer z) ≡ 3 + byte_count (unsigned_abs z)
length_below z h k = ap length (big_below z h) ∙ big_length (sign_of z) (unsigned_abs z) k

pub length_above : (z : ℤ) → pos (2 ^ 31) ≤ℤ z → byte_count (unsigned_abs z) ≤ 8 → length (written_integer z) ≡ 3 + byte_count (unsigned_abs z)
length_above z h k = ap length (big_above z h) ∙ big_length (sign_of z) (unsigned_abs z) k

pub length_small : (z : ℤ) → pos 0 ≤ℤ z → z <ℤ pos 256 → length (written_integer z) ≡ 2
length_small z h k = ap length (small_is z h k)

pub length_word_below : (z : ℤ) → neg_ℤ (pos (2 ^ 31)) ≤ℤ z → z <ℤ pos 0 → length (written_integer z) ≡ 5
length_word_below z h k = ap length (word_below z h k)

pub length_word_above : (z : ℤ) → pos 256 ≤ℤ z → z <ℤ pos (2 ^ 31) → length (written_integer z) ≡ 5
length_word_above z h k = ap length (word_above z h k)

bytes_length : (list : TermValue) → length (bytes_of_list list) ≡ pair_count list
bytes_length (pair_term head tail) = omega (arith, bytes_length tail)
bytes_length (int_term n) = refl
bytes_length (atom_term text) = refl
bytes_length (reference_term node creation words) = refl
bytes_length (pid_term node id serial creation) = refl
bytes_length nil_term = refl
bytes_length (tuple_term items) = refl

pub string_length : (head rest list : TermValue) → pair_term head rest ≡ list → is_byte_list list ≡ true → pair_count list ≤ 4096
    → length (written_part false list) ≡ 3 + pair_count list
string_length head rest list e h k = omega (arith, ap length (string_is head rest list e h k), bytes_length list)

pub list_length : (head rest list : TermValue) → pair_term head rest ≡ list → is_byte_list list ≡ false
    → length (written_part false list) ≡ 5 + length (written_part false head ++ written_part true rest)
list_length head rest list e h = omega (arith, ap length (list_is head rest list e h))

pub tuple_length : (xs : List TermValue) (tuple : TermValue) → tuple_of xs ≡ tuple
    → length (written_part false tuple) ≡ length (tuple_front (length xs)) + length (all_written (terms_of xs))
tuple_length xs tuple e =
    subst (λ (t : TermValue). length (written_part false t) ≡ length (tuple_front (length xs)) + length (all_written (terms_of xs))) e of_tuple
  where
    of_tuple : length (written_part false (tuple_of xs)) ≡ length (tuple_front (length xs)) + length (all_written (terms_of xs))
    of_tuple = rw (count_of-terms_of xs) (length-append (tuple_front (length xs)) (all_written (terms_of xs)))
