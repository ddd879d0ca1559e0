-- The term at the front of bytes in the External Term Format, read from left to right, or the first fault that is met.
use Rattle.std.specs.Prelude.{ℕ, zero, suc, ◌-◌, ◌^◌, ℤ, pos, neg_ℤ, nat_eq, List, [], ◌∷◌, length, take, drop, map, Result, Ok, Err, nat_lt, ◌==◌, ◌&&◌, if◌then◌else◌}
use Rattle.std.specs.Int.{Width, w16, w32, byte_len, from_be_bytes, cast_signed}
use Rattle.std.specs.List.{starts_with}
use Rattle.std.specs.Str.{is_utf8, chars}
use Rattle.beam_term.specs.Prelude.{TermValue, int_term, atom_term, reference_term, pid_term, nil_term, pair_term, tuple_of, list_of}
use Rattle.beam_model.specs.External.{little}
use Rattle.beam_model.specs.ExternalFault.{ExternalFault, truncated, bad_tag, out_of_profile, integer_too_large, too_deep, bad_utf8}
use Rattle.beam_model.specs.declared.external.Form.{Form}
use Rattle.beam_model.specs.declared.external.Form.TheVariants as forms
use Rattle.beam_model.specs.ExternalForm.{form_of}
pub use Rattle.beam_model.specs.Reading.{◌>>=◌}

-- ---- fields: each is a value and the bytes after it

-- the first n bytes
unfoldable pub bytes_at : ℕ → List ℕ → Result (List ℕ × List ℕ) ExternalFault
bytes_at n bytes = if nat_lt (length bytes) n then Err truncated else Ok (take n bytes, drop n bytes)

-- a number, the highest byte first
unfoldable pub big_endian_at : Width → List ℕ → Result (ℕ × List ℕ) ExternalFault
big_endian_at w bytes = do
  field ← bytes_at (byte_len w) bytes
  Ok (from_be_bytes w field.0, field.1)

unfoldable pub byte_at : List ℕ → Result (ℕ × List ℕ) ExternalFault
byte_at [] = Err truncated
byte_at (byte ∷ rest) = Ok (byte, rest)

-- the text of an atom, of n bytes
unfoldable pub text_at : ℕ → List ℕ → Result (List ℕ × List ℕ) ExternalFault
text_at n bytes = do
  field ← bytes_at n bytes
  if is_utf8 field.0 then (if nat_lt 255 (length (chars field.0)) then Err out_of_profile else Ok field) else Err bad_utf8

-- ---- terms without parts, after their tags

-- the integer of a sign and a magnitude
abbrev pub signed : ℕ → ℕ → ℤ
signed zero n = pos n
signed (suc s) n = neg_ℤ (pos n)

-- the greatest magnitude of a sign
abbrev pub greatest : ℕ → ℕ
greatest zero = 2 ^ 59 - 1
greatest (suc s) = 2 ^ 59

unfoldable pub big_at : List ℕ → Result (ℤ × List ℕ) ExternalFault
big_at bytes = do
  count ← byte_at bytes
  sign ← byte_at count.1
  if nat_lt 1 sign.0 then Err bad_tag else (do
    digits ← bytes_at count.0 sign.1
    if nat_lt (greatest sign.0) (little digits.0) then Err integer_too_large else Ok (signed sign.0 (little digits.0), digits.1))

unfoldable pub small_atom_at : List ℕ → Result (List ℕ × List ℕ) ExternalFault
small_atom_at bytes = do
  count ← byte_at bytes
  text_at count.0 count.1

unfoldable pub long_atom_at : List ℕ → Result (List ℕ × List ℕ) ExternalFault
long_atom_at bytes = do
  count ← big_endian_at w16 bytes
  text_at count.0 count.1

-- an atom in the place where one is wanted, by its form
unfoldable pub atom_of_form : Form → List ℕ → Result (List ℕ × List ℕ) ExternalFault
atom_of_form forms.SmallAtom bytes = small_atom_at bytes
atom_of_form forms.LongAtom bytes = long_atom_at bytes
atom_of_form forms.LeftOut bytes = Err out_of_profile
atom_of_form _ bytes = Err bad_tag

unfoldable pub external_atom_at : List ℕ → Result (List ℕ × List ℕ) ExternalFault
external_atom_at bytes = do
  tag ← byte_at bytes
  atom_of_form (form_of tag.0) tag.1

unfoldable pub pid_at : List ℕ → Result (TermValue × List ℕ) ExternalFault
pid_at bytes = do
  node ← external_atom_at bytes
  id ← big_endian_at w32 node.1
  serial ← big_endian_at w32 id.1
  creation ← big_endian_at w32 serial.1
  Ok (pid_term node.0 id.0 serial.0 creation.0, creation.1)

-- n words
unfoldable pub words_at : ℕ → List ℕ → Result (List ℕ × List ℕ) ExternalFault
words_at zero bytes = Ok ([], bytes)
words_at (suc n) bytes = do
  word ← big_endian_at w32 bytes
  others ← words_at n word.1
  Ok (word.0 ∷ others.0, others.1)

unfoldable pub reference_at : List ℕ → Result (TermValue × List ℕ) ExternalFault
reference_at bytes = do
  count ← big_endian_at w16 bytes
  if nat_lt 0 count.0 && nat_lt count.0 6 then (do
    node ← external_atom_at count.1
    creation ← big_endian_at w32 node.1
    words ← words_at count.0 creation.1
    Ok (reference_term node.0 creation.0 words.0, words.1)) else Err out_of_profile

-- a term that has no parts, or whose form isn't read
unfoldable pub leaf_at : Form → List ℕ → Result (TermValue × List ℕ) ExternalFault
leaf_at forms.SmallInteger bytes = do
  n ← byte_at bytes
  Ok (int_term (pos n.0), n.1)
leaf_at forms.Integer bytes = do
  n ← big_endian_at w32 bytes
  Ok (int_term (cast_signed w32 n.0), n.1)
leaf_at forms.SmallBig bytes = do
  n ← big_at bytes
  Ok (int_term n.0, n.1)
leaf_at forms.Nil bytes = Ok (nil_term, bytes)
leaf_at forms.SmallAtom bytes = do
  text ← small_atom_at bytes
  Ok (atom_term text.0, text.1)
leaf_at forms.LongAtom bytes = do
  text ← long_atom_at bytes
  Ok (atom_term text.0, text.1)
leaf_at forms.Pid bytes = pid_at bytes
leaf_at forms.Reference bytes = reference_at bytes
leaf_at forms.LeftOut bytes = Err out_of_profile
leaf_at _ bytes = Err bad_tag

-- ---- terms with parts

-- a reader of parts: n elements of a list, and then its tail
abbrev pub Inner : Type 0
Inner = ℕ → List ℕ → Result (TermValue × List ℕ) ExternalFault

-- the list of these bytes
abbrev pub text_list : List ℕ → TermValue
text_list text = list_of (map (λ byte. int_term (pos byte)) text)

unfoldable pub external_string_at : ℕ → List ℕ → Result (TermValue × List ℕ) ExternalFault
external_string_at depth_left bytes = do
  count ← big_endian_at w16 bytes
  if nat_lt depth_left count.0 then Err too_deep else (do
    text ← bytes_at count.0 count.1
    Ok (text_list text.0, text.1))

-- a head, and then n elements and the tail
unfoldable pub pair_at : Inner → ℕ → List ℕ → Result (TermValue × List ℕ) ExternalFault
pair_at inner n bytes = do
  head ← inner 0 bytes
  tail ← inner n head.1
  Ok (pair_term head.0 tail.0, tail.1)

-- a list; those of no elements were passed over
unfoldable pub external_list_at : Inner → ℕ → ℕ → List ℕ → Result (TermValue × List ℕ) ExternalFault
external_list_at inner depth_left zero bytes = Err bad_tag
external_list_at inner depth_left (suc n) bytes = if nat_lt depth_left (suc n) then Err too_deep else pair_at inner n bytes

-- n terms
unfoldable pub items_at : (List ℕ → Result (TermValue × List ℕ) ExternalFault) → ℕ → List ℕ → Result (List TermValue × List ℕ) ExternalFault
items_at item zero bytes = Ok ([], bytes)
items_at item (suc n) bytes = do
  first ← item bytes
  others ← items_at item n first.1
  Ok (first.0 ∷ others.0, others.1)

unfoldable pub external_tuple_at : Inner → ℕ → ℕ → List ℕ → Result (TermValue × List ℕ) ExternalFault
external_tuple_at inner depth_left count bytes =
    if depth_left == 0 then Err too_deep else (do
      items ← items_at (inner 0) count bytes
      Ok (tuple_of items.0, items.1))

unfoldable pub term_of_form : Inner → ℕ → Form → List ℕ → Result (TermValue × List ℕ) ExternalFault
term_of_form inner depth_left forms.String bytes = external_string_at depth_left bytes
term_of_form inner depth_left forms.List bytes = do
  count ← big_endian_at w32 bytes
  external_list_at inner depth_left count.0 count.1
term_of_form inner depth_left forms.SmallTuple bytes = do
  count ← byte_at bytes
  external_tuple_at inner depth_left count.0 count.1
term_of_form inner depth_left forms.LargeTuple bytes = do
  count ← big_endian_at w32 bytes
  external_tuple_at inner depth_left count.0 count.1
term_of_form inner depth_left form bytes = leaf_at form bytes

-- the front of a list of no elements
abbrev pub empty_list : List ℕ
empty_list = 108 ∷ 0 ∷ 0 ∷ 0 ∷ 0 ∷ []

-- the bytes after lists of no elements, each of which is its tail
unfoldable pub after_empty_lists : List ℕ → List ℕ
after_empty_lists (a ∷ b ∷ c ∷ d ∷ e ∷ rest) =
    if starts_with nat_eq (a ∷ b ∷ c ∷ d ∷ e ∷ rest) empty_list then after_empty_lists rest else a ∷ b ∷ c ∷ d ∷ e ∷ rest
after_empty_lists bytes = bytes

unfoldable pub whole_at : Inner → ℕ → List ℕ → Result (TermValue × List ℕ) ExternalFault
whole_at inner depth_left bytes = do
  tag ← byte_at (after_empty_lists bytes)
  term_of_form inner depth_left (form_of tag.0) tag.1

-- n elements of a list and then its tail, with room for m levels of pairs and tuples, the first number
unfoldable pub read_at : ℕ → Inner
read_at zero zero bytes = whole_at (λ n rest. Err too_deep) zero bytes
read_at zero (suc n) bytes = Err too_deep
read_at (suc depth_left) zero bytes = whole_at (read_at depth_left) (suc depth_left) bytes
read_at (suc depth_left) (suc n) bytes = pair_at (read_at depth_left) n bytes

-- the reading of the parts of a term that has this room
unfoldable pub below : ℕ → Inner
below zero = λ n bytes. Err too_deep
below (suc depth_left) = read_at depth_left

-- a whole term, after the version byte, and the bytes after it
unfoldable pub external_at : List ℕ → Result (TermValue × List ℕ) ExternalFault
external_at bytes = do
  version ← byte_at bytes
  if version.0 == 131 then read_at 4096 0 version.1 else Err bad_tag
