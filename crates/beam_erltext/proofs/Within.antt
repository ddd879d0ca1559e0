-- The text after a token is no longer than the text before it.
use Rattle.std.proofs.Common.{◌≡◌, ℕ, zero, suc, ◌+◌, ◌-◌, ◌*◌, ◌^◌, ◌≤◌, Bool, true, false, cond, List, [], ◌∷◌, length, take, drop, Ok, Err, subst, arith, nat_lt, nat_le, ◌==◌, ◌||◌, encode_utf8, Option, Some, None, neg_ℤ, pos, length-drop}
use Rattle.std.specs.Char.{digit_value}
use Rattle.std.specs.Str.{is_utf8, chars}
use lib.Utf8.{scalar}
use Rattle.beam_model.specs.Prelude.{is_digit, is_unquoted, Reading, fault_at, with_front, is_blank, after_blanks, digits_after, digits_at, integer_at, hexadecimal_after, hexadecimal_at, code_point_at, escape_of, or_fault, escape_at, quoted_within, quoted_at, name_len, is_atom_text, checked_atom, atom_at, string_at, list_of_characters, string_within, closed_by, tail_by, pairs_by, items_after, items_by, tuple_by, list_by, term_by, term_at, pairs_at}
use Rattle.beam_term.specs.Prelude.{TermValue, int_term, atom_term, nil_term, pair_term, tuple_of}
use Rattle.beam_model.specs.TextReading.{◌>>=◌}

-- at most this many bytes are left after a reading
abbrev pub IsWithin : {A : Type 0} → Reading A → ℕ → Type 0
IsWithin (Ok x) n = length x.1 ≤ n
IsWithin (Err e) n = Unit {0}

wider : {A : Type 0} (r : Reading A) (m n : ℕ) → m ≤ n → IsWithin r m → IsWithin r n
wider (Ok x) m n le h = omega arith
wider (Err e) m n le h = tt

within_bind : {A B : Type 0} (r : Reading A) (f : A × List ℕ → Reading B) (n : ℕ) → IsWithin r n → ((x : A × List ℕ) → length x.1 ≤ n → IsWithin (f x) n) → IsWithin (r >>= f) n
within_bind (Ok x) f n h k = k x h
within_bind (Err e) f n h k = tt

within_if : {A : Type 0} (b : Bool) (x y : Reading A) (n : ℕ) → IsWithin x n → IsWithin y n → IsWithin (cond b x y) n
within_if true x y n h k = h
within_if false x y n h k = k

length_if : (b : Bool) (x y : List ℕ) (n : ℕ) → length x ≤ n → length y ≤ n → length (cond b x y) ≤ n
length_if true x y n h k = h
length_if false x y n h k = k

pub blanks_within : (text : List ℕ) → length (after_blanks text) ≤ length text
unfolding after_blanks
blanks_within [] = omega arith
blanks_within (c ∷ cs) = length_if (is_blank c) (after_blanks cs) (c ∷ cs) (suc (length cs)) (omega (arith, blanks_within cs)) (omega arith)

within_front : {A : Type 0} (front : List A) (r : Reading (List A)) (n : ℕ) → IsWithin r n → IsWithin (with_front front r) n
within_front front (Ok x) n h = h
within_front front (Err e) n h = tt

digits_within : (n : ℕ) (text : List ℕ) → IsWithin (digits_after n text) (length text)
unfolding digits_after
digits_within n [] = omega arith
digits_within n (c ∷ cs) =
    within_if (is_digit c) _ (Ok (n, c ∷ cs)) (suc (length cs))
    (within_if (nat_le (10 * n + (c - 48)) (2 ^ 59)) (digits_after (10 * n + (c - 48)) cs) (fault_at (c ∷ cs)) (suc (length cs)) (wider (digits_after (10 * n + (c - 48)) cs) (length cs) (suc (length cs)) (omega arith) (digits_within (10 * n + (c - 48)) cs)) tt)
    (omega arith)

number_within : (text : List ℕ) → IsWithin (digits_at text) (length text)
unfolding digits_at
number_within [] = tt
number_within (c ∷ cs) = within_if (is_digit c) (digits_after 0 (c ∷ cs)) (fault_at (c ∷ cs)) (suc (length cs)) (digits_within 0 (c ∷ cs)) tt

integer_within : (text : List ℕ) → IsWithin (integer_at text) (length text)
unfolding integer_at
integer_within [] = tt
integer_within (c ∷ cs) =
    within_if (c == 45) _ _ (suc (length cs))
    (within_bind (digits_at cs) (λ n. Ok (neg_ℤ (pos n.0), after_blanks n.1)) (suc (length cs)) (wider (digits_at cs) (length cs) (suc (length cs)) (omega arith) (number_within cs)) (λ n h. omega (arith, blanks_within n.1)))
    (within_bind (digits_at (c ∷ cs)) (λ n. cond (nat_lt n.0 (2 ^ 59)) (Ok (pos n.0, after_blanks n.1)) (fault_at (c ∷ cs))) (suc (length cs)) (number_within (c ∷ cs))
    (λ n h. within_if (nat_lt n.0 (2 ^ 59)) (Ok (pos n.0, after_blanks n.1)) (fault_at (c ∷ cs)) (suc (length cs)) (omega (arith, blanks_within n.1)) tt))

hexadecimal_within : (n : ℕ) (text : List ℕ) → IsWithin (hexadecimal_after n text) (length text)
unfolding hexadecimal_after
hexadecimal_within n [] = tt
hexadecimal_within n (c ∷ cs) =
    within_if (nat_lt (digit_value c) 16) _ _ (suc (length cs))
    (within_if (nat_lt (16 * n + digit_value c) 0x110000) (hexadecimal_after (16 * n + digit_value c) cs) (fault_at (c ∷ cs)) (suc (length cs)) (wider (hexadecimal_after (16 * n + digit_value c) cs) (length cs) (suc (length cs)) (omega arith) (hexadecimal_within (16 * n + digit_value c) cs)) tt)
    (within_if (c == 125) (Ok (n, cs)) (fault_at (c ∷ cs)) (suc (length cs)) (omega arith) tt)

hexadecimal_at_within : (text : List ℕ) → IsWithin (hexadecimal_at text) (length text)
unfolding hexadecimal_at
hexadecimal_at_within [] = tt
hexadecimal_at_within (c ∷ cs) = within_if (nat_lt (digit_value c) 16) (hexadecimal_after 0 (c ∷ cs)) (fault_at (c ∷ cs)) (suc (length cs)) (hexadecimal_within 0 (c ∷ cs)) tt

code_within : (text : List ℕ) → IsWithin (code_point_at text) (length text)
unfolding code_point_at
code_within [] = tt
code_within (c ∷ cs) =
    within_if (c == 123) _ (fault_at (c ∷ cs)) (suc (length cs))
    (within_bind (hexadecimal_at cs) (λ n. cond (scalar n.0) (Ok n) (fault_at (c ∷ cs))) (suc (length cs)) (wider (hexadecimal_at cs) (length cs) (suc (length cs)) (omega arith) (hexadecimal_at_within cs))
    (λ n h. within_if (scalar n.0) (Ok n) (fault_at (c ∷ cs)) (suc (length cs)) h tt)) tt

or_fault_within : (o : Option ℕ) (text rest : List ℕ) (n : ℕ) → length rest ≤ n → IsWithin (or_fault o text rest) n
or_fault_within (Some c) text rest n h = h
or_fault_within None text rest n h = tt

escape_within : (text : List ℕ) → IsWithin (escape_at text) (length text)
unfolding escape_at
escape_within [] = tt
escape_within (c ∷ cs) =
    within_if (c == 120) (code_point_at cs) _ (suc (length cs)) (wider (code_point_at cs) (length cs) (suc (length cs)) (omega arith) (code_within cs))
    (or_fault_within (escape_of c) (c ∷ cs) cs (suc (length cs)) (omega arith))

quoted_is_within : (n quote : ℕ) (text : List ℕ) (m : ℕ) → length text ≤ m → IsWithin (quoted_within n quote text) m
unfolding quoted_within
quoted_is_within zero quote text m h = tt
quoted_is_within (suc n) quote [] m h = tt
quoted_is_within (suc n) quote (c ∷ cs) m h =
    within_if (c == quote) (Ok ([], cs)) _ m (omega arith)
    (within_if (c == 92) _ _ m
    (within_bind (escape_at cs) (λ e. with_front (encode_utf8 e.0) (quoted_within n quote e.1)) m (wider (escape_at cs) (length cs) m (omega arith) (escape_within cs))
    (λ e k. within_front (encode_utf8 e.0) (quoted_within n quote e.1) m (quoted_is_within n quote e.1 m k)))
    (within_front (c ∷ []) (quoted_within n quote cs) m (quoted_is_within n quote cs m (omega arith))))

atom_of_within : (text name rest : List ℕ) (n : ℕ) → length rest ≤ n → IsWithin (checked_atom text name rest) n
atom_of_within text name rest n h = within_if (is_atom_text name) (Ok (name, after_blanks rest)) (fault_at text) n (omega (arith, blanks_within rest)) tt

atom_within : (text : List ℕ) → IsWithin (atom_at text) (length text)
unfolding atom_at
atom_within [] = tt
atom_within (c ∷ cs) =
    let text = c ∷ cs in
    within_if (c == 39) _ _ (suc (length cs))
    (within_bind (quoted_at 39 cs) (λ name. checked_atom (c ∷ cs) name.0 name.1) (suc (length cs)) (quoted_is_within (length cs) 39 cs (suc (length cs)) (omega arith)) (λ name h. atom_of_within (c ∷ cs) name.0 name.1 (suc (length cs)) h))
    (within_if (is_unquoted (take (name_len text) text)) (checked_atom text (take (name_len text) text) (drop (name_len text) text)) (fault_at text) (suc (length cs))
    (atom_of_within text (take (name_len text) text) (drop (name_len text) text) (suc (length cs)) (omega (arith, length-drop (name_len text) text))) tt)

string_is_within : (text : List ℕ) → IsWithin (string_at text) (length text)
unfolding string_at
string_is_within [] = tt
string_is_within (c ∷ cs) =
    within_bind (quoted_at 34 cs) (λ s. cond (is_utf8 s.0) (Ok (s.0, after_blanks s.1)) (fault_at (c ∷ cs))) (suc (length cs)) (quoted_is_within (length cs) 34 cs (suc (length cs)) (omega arith))
    (λ s h. within_if (is_utf8 s.0) (Ok (s.0, after_blanks s.1)) (fault_at (c ∷ cs)) (suc (length cs)) (omega (arith, blanks_within s.1)) tt)

-- ---- terms

-- a reader that leaves no more than it was given
abbrev pub Shrinks : {A : Type 0} → (List ℕ → Reading A) → Type 0
Shrinks read = (text : List ℕ) → IsWithin (read text) (length text)

behind : {A : Type 0} (read : List ℕ → Reading A) → Shrinks read → (c : ℕ) (cs : List ℕ) (n : ℕ) → suc (length cs) ≤ n → IsWithin (read (after_blanks cs)) n
behind read shrinks c cs n h = wider (read (after_blanks cs)) (length (after_blanks cs)) n (omega (arith, blanks_within cs)) (shrinks (after_blanks cs))

closed_within : (mark : ℕ) (x : TermValue) (text : List ℕ) (n : ℕ) → length text ≤ n → IsWithin (closed_by mark x text) n
closed_within mark x [] n h = tt
closed_within mark x (c ∷ cs) n h = within_if (c == mark) (Ok (x, after_blanks cs)) (fault_at (c ∷ cs)) n (omega (arith, blanks_within cs)) tt

tail_within : (term pairs : List ℕ → Reading TermValue) → Shrinks term → Shrinks pairs → Shrinks (tail_by term pairs)
tail_within term pairs t p [] = tt
tail_within term pairs t p (c ∷ cs) =
    let n = suc (length cs) in
    within_if (c == 93) (Ok (nil_term, after_blanks cs)) _ n (omega (arith, blanks_within cs))
    (within_if (c == 44) (pairs (after_blanks cs)) _ n (behind pairs p c cs n (omega arith))
    (within_if (c == 124) _ (fault_at (c ∷ cs)) n
    (within_bind (term (after_blanks cs)) (λ tail. closed_by 93 tail.0 tail.1) n (behind term t c cs n (omega arith)) (λ tail h. closed_within 93 tail.0 tail.1 n h)) tt))

pairs_within : (term pairs : List ℕ → Reading TermValue) → Shrinks term → Shrinks pairs → Shrinks (pairs_by term pairs)
pairs_within term pairs t p text =
    within_bind (term text) (λ head. tail_by term pairs head.1 >>= λ tail. Ok (pair_term head.0 tail.0, tail.1)) (length text) (t text)
    (λ head h. within_bind (tail_by term pairs head.1) (λ tail. Ok (pair_term head.0 tail.0, tail.1)) (length text) (wider (tail_by term pairs head.1) (length head.1) (length text) h (tail_within term pairs t p head.1)) (λ tail k. k))

after_within : (items : List ℕ → Reading (List TermValue)) → Shrinks items → Shrinks (items_after items)
after_within items s [] = tt
after_within items s (c ∷ cs) =
    let n = suc (length cs) in
    within_if (c == 125) (Ok ([], after_blanks cs)) _ n (omega (arith, blanks_within cs)) (within_if (c == 44) (items (after_blanks cs)) (fault_at (c ∷ cs)) n (behind items s c cs n (omega arith)) tt)

items_within : (term : List ℕ → Reading TermValue) → Shrinks term → (n : ℕ) → Shrinks (items_by term n)
unfolding items_by
items_within term t zero text = tt
items_within term t (suc n) text =
    within_bind (term text) (λ item. with_front (item.0 ∷ []) (items_after (items_by term n) item.1)) (length text) (t text)
    (λ item h. within_front (item.0 ∷ []) (items_after (items_by term n) item.1) (length text) (wider (items_after (items_by term n) item.1) (length item.1) (length text) h (after_within (items_by term n) (items_within term t n) item.1)))

tuple_within : (term : List ℕ → Reading TermValue) → Shrinks term → Shrinks (tuple_by term)
tuple_within term t [] = tt
tuple_within term t (c ∷ cs) =
    let n = suc (length cs) in
    within_if (c == 125) (Ok (tuple_of [], after_blanks cs)) _ n (omega (arith, blanks_within cs))
    (within_bind (items_by term (length (c ∷ cs)) (c ∷ cs)) (λ items. cond (nat_lt (length items.0) (2 ^ 32)) (Ok (tuple_of items.0, items.1)) (fault_at (c ∷ cs))) n (items_within term t (length (c ∷ cs)) (c ∷ cs))
    (λ items h. within_if (nat_lt (length items.0) (2 ^ 32)) (Ok (tuple_of items.0, items.1)) (fault_at (c ∷ cs)) n h tt))

list_within : (pairs : List ℕ → Reading TermValue) → Shrinks pairs → Shrinks (list_by pairs)
list_within pairs p [] = tt
list_within pairs p (c ∷ cs) = within_if (c == 93) (Ok (nil_term, after_blanks cs)) (pairs (c ∷ cs)) (suc (length cs)) (omega (arith, blanks_within cs)) (p (c ∷ cs))

within_string : (depth : ℕ) → Shrinks (string_within depth)
within_string depth text =
    within_bind (string_at text) (λ s. cond (nat_le (length (chars s.0)) depth) (Ok (list_of_characters (chars s.0), s.1)) (fault_at text)) (length text) (string_is_within text)
    (λ s h. within_if (nat_le (length (chars s.0)) depth) (Ok (list_of_characters (chars s.0), s.1)) (fault_at text) (length text) h tt)

term_within : (depth : ℕ) (pairs tuple : List ℕ → Reading TermValue) → Shrinks pairs → Shrinks tuple → Shrinks (term_by depth pairs tuple)
term_within depth pairs tuple p u [] = tt
term_within depth pairs tuple p u (c ∷ cs) =
    let n = suc (length cs) in
    within_if (c == 91) (list_by pairs (after_blanks cs)) _ n (behind (list_by pairs) (list_within pairs p) c cs n (omega arith))
    (within_if (c == 123) (tuple (after_blanks cs)) _ n (behind tuple u c cs n (omega arith))
    (within_if (c == 34) (string_within depth (c ∷ cs)) _ n (within_string depth (c ∷ cs))
    (within_if (c == 45 || is_digit c) _ _ n
    (within_bind (integer_at (c ∷ cs)) (λ z. Ok (int_term z.0, z.1)) n (integer_within (c ∷ cs)) (λ z h. h))
    (within_bind (atom_at (c ∷ cs)) (λ z. Ok (atom_term z.0, z.1)) n (atom_within (c ∷ cs)) (λ z h. h)))))

shrink : (d : ℕ) → Shrinks (term_at d) × Shrinks (pairs_at d)
unfolding term_at pairs_at
shrink zero = (term_within 0 fault_at fault_at (λ text. tt) (λ text. tt), λ text. tt)
shrink (suc d) =
    let below = shrink d in
    let pairs : Shrinks (pairs_by (term_at d) (pairs_at d)) = pairs_within (term_at d) (pairs_at d) below.0 below.1 in
    (term_within (suc d) (pairs_by (term_at d) (pairs_at d)) (tuple_by (term_at d)) pairs (tuple_within (term_at d) below.0), pairs)

-- a term leaves no more text than it was given
pub left_of_term : (d : ℕ) (text : List ℕ) (t : TermValue) (rest : List ℕ) → term_at d text ≡ Ok (t, rest) → length rest ≤ length text
left_of_term d text t rest e = subst (λ (r : Reading TermValue). IsWithin r (length text)) e ((shrink d).0 text)
