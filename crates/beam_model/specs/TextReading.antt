-- Erlang text, read: the term that a text is, or where its first fault stands.
-- Source: Erlang Reference Manual, Data Types; the escapes are its escape sequences but for octal and control characters.
use Rattle.std.specs.Prelude.{ℕ, zero, suc, ◌+◌, ◌-◌, ◌*◌, ◌^◌, Bool, ℤ, pos, neg_ℤ, List, [], ◌∷◌, ◌++◌, length, take, drop, count_by, ◌==◌, ◌&&◌, ◌||◌, nat_le, nat_lt, Option, Some, None, Result, Ok, Err, encode_utf8, if◌then◌else◌}
use Rattle.std.specs.Char.{digit_value}
use Rattle.std.specs.Str.{is_utf8, chars}
use lib.Utf8.{scalar}
use Rattle.beam_term.specs.Prelude.{TermValue, int_term, atom_term, nil_term, pair_term, tuple_of}
use Rattle.beam_model.specs.Text.{is_digit, is_name, is_unquoted}
pub use Rattle.beam_model.specs.Reading.{◌>>=◌}

-- What reading the front of a text gives: a value and the text after it, or how much of the text is left at the fault.
abbrev pub Reading : Type 0 → Type 0
Reading A = Result (A × List ℕ) ℕ

-- the fault stands at the front of this text
abbrev pub fault_at : {A : Type 0} → List ℕ → Result A ℕ
fault_at text = Err (length text)

-- ---- between the tokens

-- space, tab, line feed, vertical tab, form feed, carriage return
abbrev pub is_blank : ℕ → Bool
is_blank c = c == 32 || (nat_le 9 c && nat_le c 13)

unfoldable pub after_blanks : List ℕ → List ℕ
after_blanks [] = []
after_blanks (c ∷ cs) = if is_blank c then after_blanks cs else c ∷ cs

-- ---- integers

-- the number at the front of the text, continued after digits of value n
unfoldable pub digits_after : ℕ → List ℕ → Reading ℕ
digits_after n [] = Ok (n, [])
digits_after n (c ∷ cs) =
    if is_digit c then (if nat_le (10 * n + (c - 48)) (2 ^ 59) then digits_after (10 * n + (c - 48)) cs else fault_at (c ∷ cs))
    else Ok (n, c ∷ cs)

-- the number at the front, of one digit or more
unfoldable pub digits_at : List ℕ → Reading ℕ
digits_at [] = Err 0
digits_at (c ∷ cs) = if is_digit c then digits_after 0 (c ∷ cs) else fault_at (c ∷ cs)

-- a minus sign stands right before its digits
unfoldable pub integer_at : List ℕ → Reading ℤ
integer_at [] = Err 0
integer_at (c ∷ cs) =
    if c == 45 then (do
      n ← digits_at cs
      Ok (neg_ℤ (pos n.0), after_blanks n.1))
    else (do
      n ← digits_at (c ∷ cs)
      if nat_lt n.0 (2 ^ 59) then Ok (pos n.0, after_blanks n.1) else fault_at (c ∷ cs))

-- ---- between quotes

-- the hexadecimal number at the front, continued after digits of value n, up to its closing brace
unfoldable pub hexadecimal_after : ℕ → List ℕ → Reading ℕ
hexadecimal_after n [] = Err 0
hexadecimal_after n (c ∷ cs) =
    if nat_lt (digit_value c) 16 then
    (if nat_lt (16 * n + digit_value c) 0x110000 then hexadecimal_after (16 * n + digit_value c) cs else fault_at (c ∷ cs))
    else if c == 125 then Ok (n, cs)
    else fault_at (c ∷ cs)

-- the number at the front, of one digit or more
unfoldable pub hexadecimal_at : List ℕ → Reading ℕ
hexadecimal_at [] = Err 0
hexadecimal_at (c ∷ cs) = if nat_lt (digit_value c) 16 then hexadecimal_after 0 (c ∷ cs) else fault_at (c ∷ cs)

-- after `\x`: the code point of a character, in braces
unfoldable pub code_point_at : List ℕ → Reading ℕ
code_point_at [] = Err 0
code_point_at (c ∷ cs) =
    if c == 123 then (do
      n ← hexadecimal_at cs
      if scalar n.0 then Ok n else fault_at (c ∷ cs))
    else fault_at (c ∷ cs)

-- the character that one letter after a backslash stands for
abbrev pub escape_of : ℕ → Option ℕ
escape_of c =
    if c == 110 then Some 10
    else if c == 116 then Some 9
    else if c == 114 then Some 13
    else if c == 98 then Some 8
    else if c == 102 then Some 12
    else if c == 118 then Some 11
    else if c == 101 then Some 27
    else if c == 115 then Some 32
    else if c == 100 then Some 127
    else if c == 34 || c == 39 || c == 92 then Some c
    else None

abbrev pub or_fault : Option ℕ → List ℕ → List ℕ → Reading ℕ
or_fault (Some c) text rest = Ok (c, rest)
or_fault None text rest = fault_at text

-- the character of an escape, after its backslash
unfoldable pub escape_at : List ℕ → Reading ℕ
escape_at [] = Err 0
escape_at (c ∷ cs) = if c == 120 then code_point_at cs else or_fault (escape_of c) (c ∷ cs) cs

abbrev pub with_front : {A : Type 0} → List A → Reading (List A) → Reading (List A)
with_front front read = read >>= λ x. Ok (front ++ x.0, x.1)

-- The bytes up to the closing quote, plain or by escapes; at most n, the bytes of the text.
unfoldable pub quoted_within : ℕ → ℕ → List ℕ → Reading (List ℕ)
quoted_within zero quote text = fault_at text
quoted_within (suc n) quote [] = Err 0
quoted_within (suc n) quote (c ∷ cs) =
    if c == quote then Ok ([], cs)
    else if c == 92 then (do
      e ← escape_at cs
      with_front (encode_utf8 e.0) (quoted_within n quote e.1))
    else with_front (c ∷ []) (quoted_within n quote cs)

abbrev pub quoted_at : ℕ → List ℕ → Reading (List ℕ)
quoted_at quote text = quoted_within (length text) quote text

-- ---- atoms and strings

-- whether a text is that of an atom: at most 255 characters
abbrev pub is_atom_text : List ℕ → Bool
is_atom_text name = is_utf8 name && nat_le (length (chars name)) 255

abbrev pub name_len : List ℕ → ℕ
name_len [] = 0
name_len (c ∷ cs) = if is_name c then suc (name_len cs) else 0

-- the atom of this name, which stands at the front of the text, and the text after it
abbrev pub checked_atom : List ℕ → List ℕ → List ℕ → Reading (List ℕ)
checked_atom text name rest = if is_atom_text name then Ok (name, after_blanks rest) else fault_at text

abbrev pub unquoted_atom_at : List ℕ → Reading (List ℕ)
unquoted_atom_at text =
    if is_unquoted (take (name_len text) text) then checked_atom text (take (name_len text) text) (drop (name_len text) text) else fault_at text

unfoldable pub atom_at : List ℕ → Reading (List ℕ)
atom_at [] = Err 0
atom_at (c ∷ cs) =
    if c == 39 then (do
      name ← quoted_at 39 cs
      checked_atom (c ∷ cs) name.0 name.1)
    else unquoted_atom_at (c ∷ cs)

-- a text in double quotes
unfoldable pub string_at : List ℕ → Reading (List ℕ)
string_at [] = Err 0
string_at (c ∷ cs) = do
  string ← quoted_at 34 cs
  if is_utf8 string.0 then Ok (string.0, after_blanks string.1) else fault_at (c ∷ cs)

-- ---- terms

-- a string is the list of its characters
abbrev pub list_of_characters : List ℕ → TermValue
list_of_characters [] = nil_term
list_of_characters (c ∷ cs) = pair_term (int_term (pos c)) (list_of_characters cs)

abbrev pub string_within : ℕ → List ℕ → Reading TermValue
string_within depth text = do
  string ← string_at text
  if nat_le (length (chars string.0)) depth then Ok (list_of_characters (chars string.0), string.1) else fault_at text

-- this mark, and nothing else, stands after the value
abbrev pub closed_by : {A : Type 0} → ℕ → A → List ℕ → Reading A
closed_by mark x [] = Err 0
closed_by mark x (c ∷ cs) = if c == mark then Ok (x, after_blanks cs) else fault_at (c ∷ cs)

-- After an element of a list: the list's end, further elements, or the tail. `term` reads a term, `pairs` a list's
-- elements and its end.
abbrev pub tail_by : (List ℕ → Reading TermValue) → (List ℕ → Reading TermValue) → List ℕ → Reading TermValue
tail_by term pairs [] = Err 0
tail_by term pairs (c ∷ cs) =
    if c == 93 then Ok (nil_term, after_blanks cs)
    else if c == 44 then pairs (after_blanks cs)
    else if c == 124 then (do
      tail ← term (after_blanks cs)
      closed_by 93 tail.0 tail.1)
    else fault_at (c ∷ cs)

abbrev pub pairs_by : (List ℕ → Reading TermValue) → (List ℕ → Reading TermValue) → List ℕ → Reading TermValue
pairs_by term pairs text = do
  head ← term text
  tail ← tail_by term pairs head.1
  Ok (pair_term head.0 tail.0, tail.1)

-- after an element of a tuple: the tuple's end, or further elements
abbrev pub items_after : (List ℕ → Reading (List TermValue)) → List ℕ → Reading (List TermValue)
items_after items [] = Err 0
items_after items (c ∷ cs) =
    if c == 125 then Ok ([], after_blanks cs)
    else if c == 44 then items (after_blanks cs)
    else fault_at (c ∷ cs)

-- the elements of a tuple, no more than n, the bytes of the text
unfoldable pub items_by : (List ℕ → Reading TermValue) → ℕ → List ℕ → Reading (List TermValue)
items_by term zero text = fault_at text
items_by term (suc n) text = do
  item ← term text
  with_front (item.0 ∷ []) (items_after (items_by term n) item.1)

-- a tuple, after its opening brace; it has fewer than 2^32 elements
abbrev pub tuple_by : (List ℕ → Reading TermValue) → List ℕ → Reading TermValue
tuple_by term [] = Err 0
tuple_by term (c ∷ cs) =
    if c == 125 then Ok (tuple_of [], after_blanks cs)
    else (do
      items ← items_by term (length (c ∷ cs)) (c ∷ cs)
      if nat_lt (length items.0) (2 ^ 32) then Ok (tuple_of items.0, items.1) else fault_at (c ∷ cs))

-- a list, after its opening bracket
abbrev pub list_by : (List ℕ → Reading TermValue) → List ℕ → Reading TermValue
list_by pairs [] = Err 0
list_by pairs (c ∷ cs) = if c == 93 then Ok (nil_term, after_blanks cs) else pairs (c ∷ cs)

-- a term of at most this depth, where `pairs` and `tuple` read the elements in brackets
abbrev pub term_by : ℕ → (List ℕ → Reading TermValue) → (List ℕ → Reading TermValue) → List ℕ → Reading TermValue
term_by depth pairs tuple [] = Err 0
term_by depth pairs tuple (c ∷ cs) =
    if c == 91 then list_by pairs (after_blanks cs)
    else if c == 123 then tuple (after_blanks cs)
    else if c == 34 then string_within depth (c ∷ cs)
    else if c == 45 || is_digit c then (do
      n ← integer_at (c ∷ cs)
      Ok (int_term n.0, n.1))
    else (do
      name ← atom_at (c ∷ cs)
      Ok (atom_term name.0, name.1))

unfoldable mutual
  -- the term of at most this depth at the front of a text
  pub term_at : ℕ → List ℕ → Reading TermValue
  term_at zero text = term_by 0 fault_at fault_at text
  term_at (suc d) text = term_by (suc d) (pairs_by (term_at d) (pairs_at d)) (tuple_by (term_at d)) text

  -- the elements of a list of at most this depth, and its end
  pub pairs_at : ℕ → List ℕ → Reading TermValue
  pairs_at zero text = fault_at text
  pairs_at (suc d) text = pairs_by (term_at d) (pairs_at d) text

-- a tuple of at most this depth, after its opening brace
unfoldable pub tuple_at : ℕ → List ℕ → Reading TermValue
tuple_at zero text = fault_at text
tuple_at (suc d) text = tuple_by (term_at d) text

abbrev pub whole : TermValue → List ℕ → Result TermValue ℕ
whole t [] = Ok t
whole t (c ∷ cs) = fault_at (c ∷ cs)

-- the text of one term
unfoldable pub read_text : List ℕ → Result TermValue ℕ
read_text text = do
  t ← term_at 4096 (after_blanks text)
  whole t.0 t.1

-- the line, from 1, of the place where n bytes of the text are left
abbrev pub line_of : List ℕ → ℕ → ℕ
line_of text left = 1 + count_by (λ c. c == 10) (take (length text - left) text)

abbrev pub at_line : List ℕ → Result TermValue ℕ → Result TermValue ℕ
at_line text (Ok t) = Ok t
at_line text (Err left) = Err (line_of text left)

-- the term that a text is, or the line of the first fault
abbrev pub term_of_text : List ℕ → Result TermValue ℕ
term_of_text text = at_line text (read_text text)
