-- Which bytes spell which operand, by what stands where: the compact term encoding of the BEAM file format.
use Rattle.std.specs.Prelude.{◌≡◌, ◌≢◌, ◌⊎◌, ℕ, ◌+◌, ◌*◌, ◌/◌, ◌%◌, ◌^◌, ◌<◌, ℤ, pos, List, [], ◌∷◌, ◌++◌, length}
use Rattle.byteorder.specs.Endian.{big_number, twos_complement}
use Rattle.beam_term.specs.Prelude.{IsSmall}
use Rattle.beam_model.specs.declared.compact.Compact.{Compact}
use Rattle.beam_model.specs.declared.compact.Compact.TheVariants.{Number, Integer, Nil, Atom, X, Y, Label, Literal}
use Rattle.beam_model.specs.declared.compact.CompactOperand.{CompactOperand}
use Rattle.beam_model.specs.declared.compact.CompactOperand.TheVariants as operand

-- ---- a value: the first byte, and the bytes of the value after it

-- bit 3 is 0: the value stands in bits 7 to 4
pub record IsFourBits (first : ℕ) (rest : List ℕ) (z : ℤ) : Type 0 where
  pub bits : first / 8 % 2 ≡ 0
  pub alone : rest ≡ []
  pub value : z ≡ pos (first / 16)

-- bits 4 and 3 are 01: bits 7 to 5 stand in front of the eight bits of the next byte
pub record IsElevenBits (first : ℕ) (rest : List ℕ) (z : ℤ) : Type 0 where
  pub bits : first / 8 % 4 ≡ 1
  pub low : ℕ
  pub next : rest ≡ low ∷ []
  pub value : z ≡ pos (first / 32 * 256 + low)

-- bits 4 and 3 are 11: the value stands in two's complement, the highest byte first, in n + 2 bytes, where n stands in bits 7 to 5 and
-- isn't 7
pub record IsWide (first : ℕ) (rest : List ℕ) (z : ℤ) : Type 0 where
  pub bits : first / 8 % 4 ≡ 3
  pub short : first / 32 ≢ 7
  pub count : length rest ≡ first / 32 + 2
  pub value : z ≡ twos_complement (length rest) (big_number (length rest) rest)

abbrev pub IsValue : ℕ → ℤ → List ℕ → Type 0
IsValue first z rest = IsFourBits first rest z ⊎ (IsElevenBits first rest z ⊎ IsWide first rest z)

-- a value under a tag, which stands in bits 2 to 0
abbrev pub IsField : ℕ → ℤ → List ℕ → Type 0
IsField tag z [] = ⊥
IsField tag z (first ∷ rest) = (first % 8 ≡ tag) × IsValue first z rest

-- a value from 0 to 4,294,967,295 under a tag
abbrev pub IsTaggedNumber : ℕ → ℕ → List ℕ → Type 0
IsTaggedNumber tag n bytes = IsField tag (pos n) bytes × (n < 2 ^ 32)

-- ---- operands

-- a register, under x or y
abbrev pub IsRegister : Compact → List ℕ → Type 0
IsRegister (X n) bytes = IsTaggedNumber 3 n bytes
IsRegister (Y n) bytes = IsTaggedNumber 4 n bytes
IsRegister _ bytes = ⊥

-- 4 under z, and the literal's index
pub record IsLiteralOperand (n : ℕ) (bytes : List ℕ) : Type 0 where
  pub mark : List ℕ
  pub index : List ℕ
  pub parts : bytes ≡ mark ++ index
  pub is_mark : IsField 7 (pos 4) mark
  pub is_index : IsTaggedNumber 0 n index

-- 5 under z, a register, and the index of its type
pub record IsTyped (r : Compact) (bytes : List ℕ) : Type 0 where
  pub mark : List ℕ
  pub register : List ℕ
  pub type_index : List ℕ
  pub parts : bytes ≡ mark ++ (register ++ type_index)
  pub is_mark : IsField 7 (pos 5) mark
  pub is_register : IsRegister r register
  pub n : ℕ
  pub is_index : IsTaggedNumber 0 n type_index

-- an operand that is no list: under u, i, a, x, y and f by the tag's number, a literal, or a typed register; 0 under a is nil
abbrev pub IsSingle : Compact → List ℕ → Type 0
IsSingle (Number n) bytes = IsTaggedNumber 0 n bytes
IsSingle (Integer z) bytes = IsField 1 z bytes × IsSmall z
IsSingle Nil bytes = IsTaggedNumber 2 0 bytes
IsSingle (Atom n) bytes = IsTaggedNumber 2 n bytes × (n ≢ 0)
IsSingle (X n) bytes = IsTaggedNumber 3 n bytes ⊎ IsTyped (X n) bytes
IsSingle (Y n) bytes = IsTaggedNumber 4 n bytes ⊎ IsTyped (Y n) bytes
IsSingle (Label n) bytes = IsTaggedNumber 5 n bytes
IsSingle (Literal n) bytes = IsLiteralOperand n bytes

-- members, one after the other
abbrev pub AreMembers : List Compact → List ℕ → Type 0
AreMembers [] bytes = bytes ≡ []
AreMembers (x ∷ xs) bytes = (front rest : List ℕ) × (bytes ≡ front ++ rest) × IsSingle x front × AreMembers xs rest

-- 1 under z, the count under u, and as many members, none of them a list
pub record IsListed (xs : List Compact) (bytes : List ℕ) : Type 0 where
  pub mark : List ℕ
  pub count : List ℕ
  pub members : List ℕ
  pub parts : bytes ≡ mark ++ (count ++ members)
  pub is_mark : IsField 7 (pos 1) mark
  pub is_count : IsTaggedNumber 0 (length xs) count
  pub are_members : AreMembers xs members

-- these bytes, all of them, spell the operand
abbrev pub IsSpelling : CompactOperand → List ℕ → Type 0
IsSpelling (operand.One x) bytes = IsSingle x bytes
IsSpelling (operand.List xs) bytes = IsListed xs bytes
