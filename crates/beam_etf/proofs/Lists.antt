-- The spelling of a list, by whether it is a text.
use Rattle.std.proofs.Common.{◌≡◌, ℕ, zero, suc, ◌≤◌, ◌<◌, true, false, List, [], ◌∷◌, ◌++◌, length, get_or, refl, ap, subst, arith, lt-ltb}
use Rattle.std.specs.Int.{to_be_bytes, w16, w32}
use Rattle.beam_model.specs.Prelude.{is_byte_list, pair_count, bytes_of_list, written_list, written_part}
use Rattle.beam_term.specs.Prelude.{TermValue, pair_term, terms_of, depth_of, items_depth}

as_string : (list : TermValue) (elements : List ℕ) → is_byte_list list ≡ true → pair_count list ≤ 4096 → written_list list elements ≡ 107 ∷ (to_be_bytes w16 (pair_count list) ++ bytes_of_list list)
unfolding written_list
as_string list elements h k =
    let small : pair_count list < 65536 = omega arith in
    rw (h, lt-ltb (pair_count list) 65536 small) refl

as_elements : (list : TermValue) (elements : List ℕ) → is_byte_list list ≡ false → written_list list elements ≡ 108 ∷ (to_be_bytes w32 (pair_count list) ++ elements)
unfolding written_list
as_elements list elements h = rw h refl

pub string_is : (head rest list : TermValue) → pair_term head rest ≡ list → is_byte_list list ≡ true → pair_count list ≤ 4096
    → written_part false list ≡ 107 ∷ (to_be_bytes w16 (pair_count list) ++ bytes_of_list list)
string_is head rest list e h k =
    subst (λ (t : TermValue). is_byte_list t ≡ true → pair_count t ≤ 4096 → written_part false t ≡ 107 ∷ (to_be_bytes w16 (pair_count t) ++ bytes_of_list t)) e (of_pair head rest) h k
  where
    of_pair : (head rest : TermValue) → is_byte_list (pair_term head rest) ≡ true → pair_count (pair_term head rest) ≤ 4096
        → written_part false (pair_term head rest) ≡ 107 ∷ (to_be_bytes w16 (pair_count (pair_term head rest)) ++ bytes_of_list (pair_term head rest))
    of_pair head rest h k = as_string (pair_term head rest) (written_part false head ++ written_part true rest) h k

pub list_is : (head rest list : TermValue) → pair_term head rest ≡ list → is_byte_list list ≡ false
    → written_part false list ≡ 108 ∷ (to_be_bytes w32 (pair_count list) ++ (written_part false head ++ written_part true rest))
list_is head rest list e h =
    subst (λ (t : TermValue). is_byte_list t ≡ false → written_part false t ≡ 108 ∷ (to_be_bytes w32 (pair_count t) ++ (written_part false head ++ written_part true rest))) e
    (λ k. as_elements (pair_term head rest) (written_part false head ++ written_part true rest) k) h

pub item_depth : (xs : List TermValue) (i : ℕ) (x : TermValue) → i < length xs → x ≡ get_or xs i x → depth_of x ≤ items_depth (terms_of xs)
item_depth [] i x h e = absurd (omega arith)
item_depth (y ∷ xs) zero x h e = omega (arith, ap depth_of e)
item_depth (y ∷ xs) (suc i) x h e = omega (arith, item_depth xs i x (omega arith) e)
