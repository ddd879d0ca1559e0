-- Operands of BEAM code: the compact term encoding of the BEAM file format.
use Rattle.std.specs.Prelude.{◌≡◌, ℕ, zero, suc, ◌+◌, ◌-◌, ◌*◌, ◌/◌, ◌%◌, ◌^◌, ◌<◌, ℤ, pos, negsuc, nat_lt, ◌==◌, if◌then◌else◌, Bool, false, List, [], ◌∷◌, ◌++◌, length, drop, Result, Ok, Err}
use Rattle.std.specs.List.{All}
use Rattle.std.specs.Int.{w64}
use Rattle.byteorder.specs.Endian.{big_number, big_bytes, twos_complement, low_bytes}
use Rattle.beam_term.specs.Prelude.{IsSmall}
use Rattle.beam_model.specs.declared.compact.CompactTag.{CompactTag}
use Rattle.beam_model.specs.declared.compact.CompactTag.TheVariants as tag
use Rattle.beam_model.specs.declared.compact.Compact.{Compact}
use Rattle.beam_model.specs.declared.compact.Compact.TheVariants.{Number, Integer, Nil, Atom, X, Y, Label, Literal}
use Rattle.beam_model.specs.declared.compact.CompactOperand.{CompactOperand}
use Rattle.beam_model.specs.declared.compact.CompactOperand.TheVariants as operand
pub use Rattle.beam_model.specs.Reading.{◌>>=◌}

-- why bytes spell no operand: the first fault from the left
pub data OperandFault : Type 0 where
  truncated : OperandFault
  unsupported_operand : OperandFault
  integer_too_large : OperandFault
  bad_sign : OperandFault

-- the tag in the low three bits of a first byte: u, i, a, x, y, f, h, z
abbrev pub compact_tag : ℕ → CompactTag
compact_tag first =
    if first % 8 == 0 then tag.Number
    else (if first % 8 == 1 then tag.Integer
    else (if first % 8 == 2 then tag.Atom
    else (if first % 8 == 3 then tag.X
    else (if first % 8 == 4 then tag.Y
    else (if first % 8 == 5 then tag.Label
    else (if first % 8 == 6 then tag.Character
    else tag.Extended))))))

-- the second form: bits 7..5 on top of the next byte
abbrev pub eleven_bits_at : ℕ → List ℕ → Result (ℤ × List ℕ) OperandFault
eleven_bits_at first [] = Err truncated
eleven_bits_at first (second ∷ bytes) = Ok (pos (first / 32 * 256 + second), bytes)

-- the third form: n bytes, big-endian two's complement
abbrev pub wide_at : ℕ → List ℕ → Result (ℤ × List ℕ) OperandFault
wide_at n bytes = if nat_lt (length bytes) n then Err truncated else Ok (twos_complement n (big_number n bytes), drop n bytes)

-- The value of a first byte and the bytes after it. Bit 3 clear: bits 7..4. Bits 4..3 = 01: eleven bits.
-- Bits 4..3 = 11: n in bits 7..5, and n + 2 bytes; n = 7 is too large.
unfoldable pub value_at : ℕ → List ℕ → Result (ℤ × List ℕ) OperandFault
value_at first bytes =
    if nat_lt (first % 16) 8 then Ok (pos (first / 16), bytes)
    else (if nat_lt (first % 32) 16 then eleven_bits_at first bytes
    else (if first / 32 == 7 then Err integer_too_large else wide_at (first / 32 + 2) bytes))

-- a value that has to be a number from 0 to 4,294,967,295
abbrev pub natural : ℤ → List ℕ → Result (ℕ × List ℕ) OperandFault
natural (pos n) bytes = if nat_lt n (2 ^ 32) then Ok (n, bytes) else Err integer_too_large
natural (negsuc n) bytes = Err bad_sign

-- whether an integer is in the range from -2^59 to 2^59 - 1
abbrev pub is_small : ℤ → Bool
is_small (pos n) = nat_lt n (2 ^ 59)
is_small (negsuc n) = nat_lt n (2 ^ 59)

unfoldable pub natural_at : ℕ → List ℕ → Result (ℕ × List ℕ) OperandFault
natural_at first bytes = do
  v ← value_at first bytes
  natural v.0 v.1

unfoldable pub compact_integer_at : ℕ → List ℕ → Result (ℤ × List ℕ) OperandFault
compact_integer_at first bytes = do
  v ← value_at first bytes
  if is_small v.0 then Ok v else Err integer_too_large

-- a u, as a count or an index
unfoldable pub number_at : List ℕ → Result (ℕ × List ℕ) OperandFault
number_at [] = Err truncated
number_at (first ∷ bytes) = if first % 8 == 0 then natural_at first bytes else Err unsupported_operand

-- the atom of an index; index 0 is nil
abbrev pub atom_or_nil : ℕ → Compact
atom_or_nil zero = Nil
atom_or_nil (suc n) = Atom (suc n)

-- a register after its first byte
unfoldable pub register_of_tag : CompactTag → ℕ → List ℕ → Result (Compact × List ℕ) OperandFault
register_of_tag tag.X first bytes = do
  n ← natural_at first bytes
  Ok (X n.0, n.1)
register_of_tag tag.Y first bytes = do
  n ← natural_at first bytes
  Ok (Y n.0, n.1)
register_of_tag _ first bytes = Err unsupported_operand

abbrev pub register_at : List ℕ → Result (Compact × List ℕ) OperandFault
register_at [] = Err truncated
register_at (first ∷ bytes) = register_of_tag (compact_tag first) first bytes

-- under z: 4 a literal, then its index; 5 a typed register, a register and then the index of a type
unfoldable pub extended_of : ℤ → List ℕ → Result (Compact × List ℕ) OperandFault
extended_of (pos n) bytes =
    if n == 4 then (do
      index ← number_at bytes
      Ok (Literal index.0, index.1))
    else (if n == 5 then (do
      register ← register_at bytes
      type_index ← number_at register.1
      Ok (register.0, type_index.1))
    else Err unsupported_operand)
extended_of (negsuc n) bytes = Err unsupported_operand

-- an operand that is no list, after its first byte
unfoldable pub single_of_tag : CompactTag → ℕ → List ℕ → Result (Compact × List ℕ) OperandFault
single_of_tag tag.Number first bytes = do
  n ← natural_at first bytes
  Ok (Number n.0, n.1)
single_of_tag tag.Integer first bytes = do
  z ← compact_integer_at first bytes
  Ok (Integer z.0, z.1)
single_of_tag tag.Atom first bytes = do
  n ← natural_at first bytes
  Ok (atom_or_nil n.0, n.1)
single_of_tag tag.X first bytes = register_of_tag tag.X first bytes
single_of_tag tag.Y first bytes = register_of_tag tag.Y first bytes
single_of_tag tag.Label first bytes = do
  n ← natural_at first bytes
  Ok (Label n.0, n.1)
single_of_tag tag.Character first bytes = Err unsupported_operand
single_of_tag tag.Extended first bytes = do
  v ← value_at first bytes
  extended_of v.0 v.1

abbrev pub single_at : List ℕ → Result (Compact × List ℕ) OperandFault
single_at [] = Err truncated
single_at (first ∷ bytes) = single_of_tag (compact_tag first) first bytes

-- n members of a list, none of them a list
unfoldable pub members_at : ℕ → List ℕ → Result (List Compact × List ℕ) OperandFault
members_at zero bytes = Ok ([], bytes)
members_at (suc n) bytes = do
  member ← single_at bytes
  others ← members_at n member.1
  Ok (member.0 ∷ others.0, others.1)

-- a list after its first byte: a count, and as many members
unfoldable pub compact_list_at : List ℕ → Result (CompactOperand × List ℕ) OperandFault
compact_list_at bytes = do
  count ← number_at bytes
  members ← members_at count.0 count.1
  Ok (operand.List members.0, members.1)

-- an operand that is no list, as one that may be a list
abbrev pub as_operand : Result (Compact × List ℕ) OperandFault → Result (CompactOperand × List ℕ) OperandFault
as_operand read = do
  x ← read
  Ok (operand.One x.0, x.1)

-- whether a first byte and those after it begin a list: 1 under z
abbrev pub is_one : ℤ → Bool
is_one (pos n) = n == 1
is_one (negsuc n) = false

unfoldable pub operand_of_tag : CompactTag → ℕ → List ℕ → Result (CompactOperand × List ℕ) OperandFault
operand_of_tag tag.Extended first bytes = do
  v ← value_at first bytes
  if is_one v.0 then compact_list_at v.1 else as_operand (extended_of v.0 v.1)
operand_of_tag kind first bytes = as_operand (single_of_tag kind first bytes)

-- the operand at the front of the bytes, and the bytes after it
abbrev pub operand_at : List ℕ → Result (CompactOperand × List ℕ) OperandFault
operand_at [] = Err truncated
operand_at (first ∷ bytes) = operand_of_tag (compact_tag first) first bytes

-- these bytes, all of them, spell the operand
abbrev pub SpellsOperand : List ℕ → CompactOperand → Type 0
SpellsOperand bytes operand = operand_at bytes ≡ Ok (operand, [])

-- the number of a tag
abbrev pub tag_number : CompactTag → ℕ
tag_number tag.Number = 0
tag_number tag.Integer = 1
tag_number tag.Atom = 2
tag_number tag.X = 3
tag_number tag.Y = 4
tag_number tag.Label = 5
tag_number tag.Character = 6
tag_number tag.Extended = 7

-- the magnitude of an integer in two's complement, without the sign bit
abbrev pub magnitude : ℤ → ℕ
magnitude (pos n) = n
magnitude (negsuc n) = n

-- the fewest bytes, at least two, that hold it in two's complement
abbrev pub wide_length : ℤ → ℕ
wide_length z =
    if nat_lt (magnitude z) (2 ^ 15) then 2
    else (if nat_lt (magnitude z) (2 ^ 23) then 3
    else (if nat_lt (magnitude z) (2 ^ 31) then 4
    else (if nat_lt (magnitude z) (2 ^ 39) then 5
    else (if nat_lt (magnitude z) (2 ^ 47) then 6
    else (if nat_lt (magnitude z) (2 ^ 55) then 7
    else 8)))))

-- the third form, in n bytes after the first
abbrev pub wide_of : ℕ → ℕ → ℤ → List ℕ
wide_of n tag z = ((n - 2) * 32 + 24 + tag) ∷ big_bytes n (low_bytes w64 n z)

-- the shortest of the three forms
unfoldable pub field : ℕ → ℤ → List ℕ
field tag (pos n) =
    if nat_lt n 16 then (n * 16 + tag) ∷ []
    else (if nat_lt n 2048 then (n / 256 * 32 + 8 + tag) ∷ n % 256 ∷ []
    else wide_of (wide_length (pos n)) tag (pos n))
field tag (negsuc n) = wide_of (wide_length (negsuc n)) tag (negsuc n)

-- the one shortest spelling of an operand that is no list
unfoldable pub single_spelling : Compact → Result (List ℕ) OperandFault
single_spelling (Number n) = Ok (field 0 (pos n))
single_spelling (Integer z) = if is_small z then Ok (field 1 z) else Err integer_too_large
single_spelling Nil = Ok (field 2 (pos 0))
single_spelling (Atom n) = if n == 0 then Err unsupported_operand else Ok (field 2 (pos n))
single_spelling (X n) = Ok (field 3 (pos n))
single_spelling (Y n) = Ok (field 4 (pos n))
single_spelling (Label n) = Ok (field 5 (pos n))
single_spelling (Literal n) = Ok (field 7 (pos 4) ++ field 0 (pos n))

-- the members, one after the other
unfoldable pub members_spelling : List Compact → Result (List ℕ) OperandFault
members_spelling [] = Ok []
members_spelling (member ∷ members) = do
  first ← single_spelling member
  others ← members_spelling members
  Ok (first ++ others)

-- the one shortest spelling of an operand; a list has a count below 2^32
unfoldable pub spelling : CompactOperand → Result (List ℕ) OperandFault
spelling (operand.One x) = single_spelling x
spelling (operand.List xs) =
    if nat_lt (length xs) (2 ^ 32) then (do
      members ← members_spelling xs
      Ok ((field 7 (pos 1) ++ field 0 (pos (length xs))) ++ members))
    else Err integer_too_large

-- numbers below 2^32, as a u32 is
abbrev pub HasNumbers : Compact → Type 0
HasNumbers (Number n) = n < 2 ^ 32
HasNumbers (Integer z) = Unit {0}
HasNumbers Nil = Unit {0}
HasNumbers (Atom n) = n < 2 ^ 32
HasNumbers (X n) = n < 2 ^ 32
HasNumbers (Y n) = n < 2 ^ 32
HasNumbers (Label n) = n < 2 ^ 32
HasNumbers (Literal n) = n < 2 ^ 32

abbrev pub HaveNumbers : List Compact → Type 0
HaveNumbers [] = Unit {0}
HaveNumbers (x ∷ xs) = HasNumbers x × HaveNumbers xs

-- an operand of u32 numbers
abbrev pub HasOperandNumbers : CompactOperand → Type 0
HasOperandNumbers (operand.One x) = HasNumbers x
HasOperandNumbers (operand.List xs) = HaveNumbers xs

-- an integer is in the range of terms
abbrev pub HasSmall : Compact → Type 0
HasSmall (Integer z) = IsSmall z
HasSmall _ = Unit {0}

-- each integer of an operand is in the range of terms
abbrev pub HasSmallIntegers : CompactOperand → Type 0
HasSmallIntegers (operand.One x) = HasSmall x
HasSmallIntegers (operand.List xs) = All HasSmall xs
