-- The External Term Format: which bytes spell a term, and the one spelling that is written.
-- Source: Erlang Run-Time System Application, "External Term Format", as far as the profile goes: integers, atoms in UTF-8, pids,
-- references, tuples and lists, with one version byte, 131, before the whole.
use Rattle.std.specs.Prelude.{◌≡◌, ℕ, suc, ◌+◌, ◌*◌, ◌^◌, ◌≤◌, ℤ, pos, negsuc, neg_ℤ, unsigned_abs, Bool, true, false, ◌&&◌, nat_lt, if◌then◌else◌, List, [], ◌∷◌, ◌++◌, length, map, take}
use Rattle.std.specs.List.{flat_map}
use Rattle.std.specs.Int.{w16, w32, w64, from_be_bytes, to_be_bytes, to_le_bytes, cast_signed, cast_unsigned}
use Rattle.std.specs.Int.Signed.{lt_z, le_z}
use Rattle.beam_term.specs.Prelude.{IsAtomText, TermValue, Terms, int_term, atom_term, reference_term, pid_term, nil_term, pair_term, tuple_term, no_terms, more_terms, count_of, list_of, depth_of, IsSmall}

-- two bytes, the higher first
pub record IsHalf (field : List ℕ) (n : ℕ) : Type 0 where
  pub wide : length field ≡ 2
  pub value : from_be_bytes w16 field ≡ n

-- four bytes, the highest first
pub record IsWord (field : List ℕ) (n : ℕ) : Type 0 where
  pub wide : length field ≡ 4
  pub value : from_be_bytes w32 field ≡ n

-- the number of these bytes, the lowest first
abbrev pub little : List ℕ → ℕ
little [] = 0
little (digit ∷ digits) = digit + 256 * little digits

-- the integer of a sign byte and a magnitude: 0 for plus, 1 for minus
pub data IsSigned : ℕ → ℕ → ℤ → Type 0 where
  plus_sign : (n : ℕ) → IsSigned 0 n (pos n)
  minus_sign : (n : ℕ) → IsSigned 1 n (neg_ℤ (pos n))

-- an atom: SMALL_ATOM_UTF8_EXT and ATOM_UTF8_EXT
pub data SpellsAtom : List ℕ → List ℕ → Type 0 where
  small_atom_utf8_ext : (text : List ℕ) → IsAtomText text → SpellsAtom (119 ∷ length text ∷ text) text
  atom_utf8_ext : (field text : List ℕ) → IsHalf field (length text) → IsAtomText text → SpellsAtom (118 ∷ (field ++ text)) text

-- words of four bytes, one after another
pub data AreWords : List ℕ → List ℕ → Type 0 where
  no_words : AreWords [] []
  one_word : (field rest : List ℕ) (n : ℕ) (ns : List ℕ) → IsWord field n → AreWords rest ns → AreWords (field ++ rest) (n ∷ ns)

mutual
  -- the bytes after the version byte spell the term
  pub data SpellsTerm : List ℕ → TermValue → Type 0 where
    -- SMALL_INTEGER_EXT
    small_integer_ext : (n : ℕ) → SpellsTerm (97 ∷ n ∷ []) (int_term (pos n))
    -- INTEGER_EXT: a two's complement
    integer_ext : (field : List ℕ) (n : ℕ) → IsWord field n → SpellsTerm (98 ∷ field) (int_term (cast_signed w32 n))
    -- SMALL_BIG_EXT
    small_big_ext : (sign : ℕ) (digits : List ℕ) (z : ℤ) → IsSigned sign (little digits) z → IsSmall z → SpellsTerm (110 ∷ length digits ∷ sign ∷ digits) (int_term z)
    -- NIL_EXT
    nil_ext : SpellsTerm (106 ∷ []) nil_term
    utf8_atom : (bytes text : List ℕ) → SpellsAtom bytes text → SpellsTerm bytes (atom_term text)
    -- NEW_PID_EXT
    new_pid_ext : (name node id serial creation : List ℕ) (i s c : ℕ) → SpellsAtom name node → IsWord id i → IsWord serial s → IsWord creation c
        → SpellsTerm (88 ∷ (name ++ id ++ serial ++ creation)) (pid_term node i s c)
    -- NEWER_REFERENCE_EXT, of one to five words
    newer_reference_ext : (count name node creation body words : List ℕ) (c : ℕ) → IsHalf count (length words) → 1 ≤ length words → length words ≤ 5
        → SpellsAtom name node → IsWord creation c → AreWords body words
        → SpellsTerm (90 ∷ (count ++ name ++ creation ++ body)) (reference_term node c words)
    -- SMALL_TUPLE_EXT
    small_tuple_ext : (body : List ℕ) (xs : Terms) → SpellsAll body xs → SpellsTerm (104 ∷ count_of xs ∷ body) (tuple_term xs)
    -- LARGE_TUPLE_EXT
    large_tuple_ext : (field body : List ℕ) (xs : Terms) → IsWord field (count_of xs) → SpellsAll body xs → SpellsTerm (105 ∷ (field ++ body)) (tuple_term xs)
    -- STRING_EXT: the list of these bytes
    string_ext : (field text : List ℕ) → IsHalf field (length text) → SpellsTerm (107 ∷ (field ++ text)) (list_of (map (λ byte. int_term (pos byte)) text))
    -- LIST_EXT
    list_ext : (field body : List ℕ) (n : ℕ) (t : TermValue) → IsWord field (suc n) → SpellsList (suc n) body t → SpellsTerm (108 ∷ (field ++ body)) t
    -- LIST_EXT with no elements: its tail
    empty_list_ext : (body : List ℕ) (t : TermValue) → SpellsTerm body t → SpellsTerm (108 ∷ 0 ∷ 0 ∷ 0 ∷ 0 ∷ body) t

  -- the elements of a tuple, one after the other
  pub data SpellsAll : List ℕ → Terms → Type 0 where
    no_elements : SpellsAll [] no_terms
    one_element : (first others : List ℕ) (x : TermValue) (xs : Terms) → SpellsTerm first x → SpellsAll others xs → SpellsAll (first ++ others) (more_terms x xs)

  -- n elements of a list, and then its tail
  pub data SpellsList : ℕ → List ℕ → TermValue → Type 0 where
    only_tail : (bytes : List ℕ) (t : TermValue) → SpellsTerm bytes t → SpellsList 0 bytes t
    head_before : (n : ℕ) (first others : List ℕ) (head t : TermValue) → SpellsTerm first head → SpellsList n others t → SpellsList (suc n) (first ++ others) (pair_term head t)

-- a whole term: the version byte, and a term whose pairs and tuples nest at most 4,096 deep
pub record IsExternal (bytes : List ℕ) (t : TermValue) : Type 0 where
  pub body : List ℕ
  pub versioned : bytes ≡ 131 ∷ body
  pub spelled : SpellsTerm body t
  pub shallow : depth_of t ≤ 4096

-- ---- the one spelling that is written

-- how many bytes a magnitude from 2^31 on takes
abbrev pub byte_count : ℕ → ℕ
byte_count n =
    if nat_lt n (2 ^ 32) then 4
    else (if nat_lt n (2 ^ 40) then 5
    else (if nat_lt n (2 ^ 48) then 6
    else (if nat_lt n (2 ^ 56) then 7 else 8)))

-- a sign, and a magnitude in the fewest bytes, the lowest first
abbrev pub written_big : ℕ → ℕ → List ℕ
written_big sign n = 110 ∷ byte_count n ∷ sign ∷ take (byte_count n) (to_le_bytes w64 n)

abbrev pub sign_of : ℤ → ℕ
sign_of (pos n) = 0
sign_of (negsuc n) = 1

-- an integer: SMALL_INTEGER_EXT where it is a byte, else INTEGER_EXT where it has 32 bits, else SMALL_BIG_EXT
unfoldable pub written_integer : ℤ → List ℕ
written_integer z =
    if le_z (pos 0) z && lt_z z (pos 256) then 97 ∷ unsigned_abs z ∷ []
    else (if le_z (neg_ℤ (pos (2 ^ 31))) z && lt_z z (pos (2 ^ 31)) then 98 ∷ to_be_bytes w32 (cast_unsigned w32 z)
    else written_big (sign_of z) (unsigned_abs z))

-- an atom: SMALL_ATOM_UTF8_EXT up to 255 bytes, else ATOM_UTF8_EXT
unfoldable pub written_atom : List ℕ → List ℕ
written_atom text = if nat_lt (length text) 256 then 119 ∷ length text ∷ text else 118 ∷ (to_be_bytes w16 (length text) ++ text)

-- NEW_PID_EXT
unfoldable pub written_pid : List ℕ → ℕ → ℕ → ℕ → List ℕ
written_pid node id serial creation = 88 ∷ (written_atom node ++ to_be_bytes w32 id ++ to_be_bytes w32 serial ++ to_be_bytes w32 creation)

-- NEWER_REFERENCE_EXT
unfoldable pub written_reference : List ℕ → ℕ → List ℕ → List ℕ
written_reference node creation words = 90 ∷ (to_be_bytes w16 (length words) ++ written_atom node ++ to_be_bytes w32 creation ++ flat_map (to_be_bytes w32) words)

-- the front of a tuple of n elements: SMALL_TUPLE_EXT up to 255, else LARGE_TUPLE_EXT
unfoldable pub tuple_front : ℕ → List ℕ
tuple_front count = if nat_lt count 256 then 104 ∷ count ∷ [] else 105 ∷ to_be_bytes w32 count

-- whether the term is an integer from 0 to 255
abbrev pub is_byte : TermValue → Bool
is_byte (int_term (pos n)) = nat_lt n 256
is_byte _ = false

-- the integer that the term is, 0 of any other term
abbrev pub byte_of : TermValue → ℕ
byte_of (int_term (pos n)) = n
byte_of _ = 0

-- whether the term is a proper list of integers from 0 to 255
abbrev pub is_byte_list : TermValue → Bool
is_byte_list nil_term = true
is_byte_list (pair_term head tail) = is_byte head && is_byte_list tail
is_byte_list _ = false

-- the elements of a list of integers from 0 to 255
abbrev pub bytes_of_list : TermValue → List ℕ
bytes_of_list (pair_term head tail) = byte_of head ∷ bytes_of_list tail
bytes_of_list _ = []

-- how many elements stand before a list's tail
abbrev pub pair_count : TermValue → ℕ
pair_count (pair_term head tail) = suc (pair_count tail)
pair_count _ = 0

-- a list: STRING_EXT where it is a text of up to 65,535 bytes, else LIST_EXT with its elements and tail
unfoldable pub written_list : TermValue → List ℕ → List ℕ
written_list list elements =
    if is_byte_list list && nat_lt (pair_count list) 65536 then 107 ∷ (to_be_bytes w16 (pair_count list) ++ bytes_of_list list)
    else 108 ∷ (to_be_bytes w32 (pair_count list) ++ elements)

abbrev mutual
  -- a term by itself, or the rest of a list whose front is written
  pub written_part : Bool → TermValue → List ℕ
  written_part rest (int_term n) = written_integer n
  written_part rest (atom_term text) = written_atom text
  written_part rest (reference_term node creation words) = written_reference node creation words
  written_part rest (pid_term node id serial creation) = written_pid node id serial creation
  written_part rest nil_term = 106 ∷ []
  written_part true (pair_term head tail) = written_part false head ++ written_part true tail
  written_part false (pair_term head tail) = written_list (pair_term head tail) (written_part false head ++ written_part true tail)
  written_part rest (tuple_term items) = tuple_front (count_of items) ++ all_written items

  pub all_written : Terms → List ℕ
  all_written no_terms = []
  all_written (more_terms x xs) = written_part false x ++ all_written xs

-- the bytes that are written for a term
abbrev pub external_bytes : TermValue → List ℕ
external_bytes t = 131 ∷ written_part false t
