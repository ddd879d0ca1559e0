-- Operands that are spelled in one byte or two, and registers with types, which are spelled in three.
use Rattle.std.proofs.Common.{◌≡◌, ℕ, ◌+◌, ◌-◌, ◌*◌, ◌/◌, ◌%◌, ◌^◌, ◌<◌, ◌≤◌, pos, true, false, ltb, eqb, List, [], ◌∷◌, length, drop, Some, Ok, Err, refl, sym, ap, ◌∙◌, arith, IsSome, is_some, option_map, slice_index_or, lt-ltb, eq-eqb, le-ltb, length-drop}
use Rattle.beam_model.specs.declared.compact.CompactTag.{CompactTag}
use Rattle.beam_model.specs.declared.compact.Compact.{Compact}
use Rattle.beam_model.specs.declared.compact.Compact.TheVariants.{Number, Integer, X, Y, Label}
use Rattle.beam_model.specs.Prelude.{tag_number, unsupported_operand, value_at, number_at, atom_or_nil, register_of_tag, register_at, extended_of, single_of_tag, single_at}
use Rattle.beam_model.specs.declared.compact.CompactTag.TheVariants as tag
use Rattle.beam_model.specs.declared.instruction.Argument.TheVariants as argument
use Rattle.beam_operand.proofs.RoundTrip.{tag_is, natural_again, number_read, integer_read, atom_read, x_read, y_read, label_read}
use Rattle.beam_code.specs.Prelude.{CodeBytes, meant_in, argument_in, argument_at, index_in, index_at, IsFront}
use Rattle.beam_code.proofs.Lent.{some_mapped, lendable}

-- what such a byte spells, by its tag and its high half
abbrev pub short_of : CompactTag → ℕ → Compact
short_of tag.Integer n = Integer (pos n)
short_of tag.Atom n = atom_or_nil n
short_of tag.X n = X n
short_of tag.Y n = Y n
short_of tag.Label n = Label n
short_of _ n = Number n

pub low_tag : (first k : ℕ) → first % 16 ≡ k → k < 8 → first % 8 ≡ k
low_tag first k e lt = omega (arith, e, lt)

pub short_value : (first : ℕ) (rest : List ℕ) → first % 16 < 8 → value_at first rest ≡ Ok (pos (first / 16), rest)
unfolding value_at
short_value first rest lt = let small : ltb (first % 16) 8 ≡ true = lt-ltb _ _ lt in rw small refl

pub read_as : (k : CompactTag) → tag_number k < 6 → (n first : ℕ) (bytes rest : List ℕ) → n < 2 ^ 32 → value_at first bytes ≡ Ok (pos n, rest) → single_of_tag k first bytes ≡ Ok (short_of k n, rest)
read_as tag.Number lt n first bytes rest narrow e = number_read n (omega arith) first bytes rest e
read_as tag.Integer lt n first bytes rest narrow e = integer_read (pos n) (lt-ltb n (2 ^ 59) (omega arith)) first bytes rest e
read_as tag.Atom lt n first bytes rest narrow e = atom_read n (omega arith) first bytes rest e
read_as tag.X lt n first bytes rest narrow e = x_read n (omega arith) first bytes rest e
read_as tag.Y lt n first bytes rest narrow e = y_read n (omega arith) first bytes rest e
read_as tag.Label lt n first bytes rest narrow e = label_read n (omega arith) first bytes rest e
read_as tag.Character lt n first bytes rest narrow e = absurd (omega arith)
read_as tag.Extended lt n first bytes rest narrow e = absurd (omega arith)

-- the byte at a position, whose low half is this tag
pub record IsShort (code : List ℕ) (at first : ℕ) (k : CompactTag) : Type 0 where
  pub within : at < length code
  pub there : drop at code ≡ first ∷ drop (at + 1) code
  pub byte : first < 256
  pub low : first % 16 ≡ tag_number k
  pub one : tag_number k < 6

short_single : (code : List ℕ) (at first : ℕ) (k : CompactTag) → IsShort code at first k → single_at (drop at code) ≡ Ok (short_of k (first / 16), drop (at + 1) code)
short_single code at first k s =
    let rest = drop (at + 1) code in
    let byte : first < 256 = s.byte in
    let low : first % 16 ≡ tag_number k = s.low in
    let one : tag_number k < 6 = s.one in
    let value = short_value first rest (omega (arith, low, one)) in
    ap single_at s.there
    ∙ ap (λ (t : CompactTag). single_of_tag t first rest) (tag_is k first (low_tag first (tag_number k) low (omega (arith, one))))
    ∙ read_as k one (first / 16) first rest rest (omega (arith, byte)) value

pub next_is : (code : List ℕ) (at : ℕ) → at < length code → length code - length (drop (at + 1) code) ≡ at + 1
next_is code at within = omega (arith, length-drop (at + 1) code, within)

-- the argument that such a byte spells
pub short_argument : (c : CodeBytes) (at first : ℕ) (k : CompactTag) → IsShort c.code at first k
    → argument_at c at ≡ option_map (λ a. (a, at + 1)) (meant_in c (short_of k (first / 16)))
unfolding argument_at
short_argument c at first k s =
    ap (argument_in c) (short_single c.code at first k s)
    ∙ ap (λ (n : ℕ). option_map (λ a. (a, n)) (meant_in c (short_of k (first / 16)))) (next_is c.code at s.within)

pub short_meant : (c : CodeBytes) (at first : ℕ) (k : CompactTag) → IsShort c.code at first k → IsSome (argument_at c at) → IsSome (meant_in c (short_of k (first / 16)))
short_meant c at first k s h = some_mapped (λ a. (a, at + 1)) (meant_in c (short_of k (first / 16))) (ap is_some (sym (short_argument c at first k s)) ∙ h)

-- the index of an import
pub short_index : (c : CodeBytes) (at first : ℕ) → IsShort c.code at first tag.Number → index_at c at ≡ Some (first / 16, at + 1)
unfolding index_at
short_index c at first s =
    ap (index_in c) (short_single c.code at first tag.Number s) ∙ ap (λ (n : ℕ). Some (first / 16, n)) (next_is c.code at s.within)

-- ---- in two bytes

wide_tag : (first k : ℕ) → first % 32 ≡ 8 + k → k < 8 → first % 8 ≡ k
wide_tag first k e lt = omega (arith, e, lt)

pub wide_value : (first second : ℕ) (rest : List ℕ) → 8 ≤ first % 32 → first % 32 < 16 → value_at first (second ∷ rest) ≡ Ok (pos (first / 32 * 256 + second), rest)
unfolding value_at
wide_value first second rest ge lt =
    let long : ltb (first % 16) 8 ≡ false = le-ltb _ _ (omega (arith, ge, lt)) in
    let eleven : ltb (first % 32) 16 ≡ true = lt-ltb _ _ lt in
    rw (long, eleven) refl

-- the value of two bytes
abbrev pub wide_number : ℕ → ℕ → ℕ
wide_number first second = first / 32 * 256 + second

-- two bytes, of which the low part of the first is a tag and says that there are two, where they stand
pub record IsWide (code : List ℕ) (at first second : ℕ) (rest : List ℕ) (k : CompactTag) : Type 0 where
  pub within : at < length code
  pub there : drop at code ≡ first ∷ second ∷ rest
  pub fits : wide_number first second < 2 ^ 32
  pub low : first % 32 ≡ 8 + tag_number k
  pub one : tag_number k < 6

wide_single : (code : List ℕ) (at first second : ℕ) (rest : List ℕ) (k : CompactTag) → IsWide code at first second rest k → single_at (drop at code) ≡ Ok (short_of k (wide_number first second), rest)
wide_single code at first second rest k w =
    let low : first % 32 ≡ 8 + tag_number k = w.low in
    let one : tag_number k < 6 = w.one in
    let value = wide_value first second rest (omega (arith, low)) (omega (arith, low, one)) in
    ap single_at w.there
    ∙ ap (λ (t : CompactTag). single_of_tag t first (second ∷ rest)) (tag_is k first (wide_tag first (tag_number k) low (omega (arith, one))))
    ∙ read_as k one (wide_number first second) first (second ∷ rest) rest w.fits value

after_two : (code : List ℕ) (at first second : ℕ) (rest : List ℕ) → at < length code → drop at code ≡ first ∷ second ∷ rest → length code - length rest ≡ at + 2
after_two code at first second rest within there = omega (arith, length-drop at code, within, ap length there)

pub wide_argument : (c : CodeBytes) (at first second : ℕ) (rest : List ℕ) (k : CompactTag) → IsWide c.code at first second rest k
    → argument_at c at ≡ option_map (λ a. (a, at + 2)) (meant_in c (short_of k (wide_number first second)))
unfolding argument_at
wide_argument c at first second rest k w =
    ap (argument_in c) (wide_single c.code at first second rest k w)
    ∙ ap (λ (n : ℕ). option_map (λ a. (a, n)) (meant_in c (short_of k (wide_number first second)))) (after_two c.code at first second rest w.within w.there)

pub wide_meant : (c : CodeBytes) (at first second : ℕ) (rest : List ℕ) (k : CompactTag) → IsWide c.code at first second rest k → IsSome (argument_at c at) → IsSome (meant_in c (short_of k (wide_number first second)))
wide_meant c at first second rest k w h =
    some_mapped (λ a. (a, at + 2)) (meant_in c (short_of k (wide_number first second))) (ap is_some (sym (wide_argument c at first second rest k w)) ∙ h)

-- ---- registers with types

-- a register and the index of its type, each spelled in one byte, after the byte that announces them, where they stand
pub record IsTyped (code : List ℕ) (at register index : ℕ) (rest : List ℕ) (low : ℕ) : Type 0 where
  pub within : at < length code
  pub there : drop at code ≡ 87 ∷ register ∷ index ∷ rest
  pub fits : (register / 16 < 2 ^ 32) × (index / 16 < 2 ^ 32)
  pub register_low : register % 16 ≡ low
  pub index_low : index % 16 ≡ 0

type_read : (index : ℕ) (rest : List ℕ) → index / 16 < 2 ^ 32 → index % 16 ≡ 0 → number_at (index ∷ rest) ≡ Ok (index / 16, rest)
unfolding number_at
type_read index rest fits low =
    let number : eqb (index % 8) 0 ≡ true = eq-eqb (index % 8) 0 (low_tag index 0 low (omega arith)) in
    rw number (natural_again index (index / 16) rest rest fits (short_value index rest (omega (arith, low))))

typed_single : (x : Compact) (register index : ℕ) (rest : List ℕ) → register_at (register ∷ index ∷ rest) ≡ Ok (x, index ∷ rest) → number_at (index ∷ rest) ≡ Ok (index / 16, rest)
    → single_at (87 ∷ register ∷ index ∷ rest) ≡ Ok (x, rest)
unfolding single_of_tag value_at extended_of
typed_single x register index rest r n = rw (r, n) refl

x_register : (register : ℕ) (bytes : List ℕ) → register / 16 < 2 ^ 32 → register % 16 ≡ 3 → register_at (register ∷ bytes) ≡ Ok (X (register / 16), bytes)
unfolding single_of_tag
x_register register bytes fits low =
    ap (λ (t : CompactTag). register_of_tag t register bytes) (tag_is tag.X register (low_tag register 3 low (omega arith)))
    ∙ x_read (register / 16) fits register bytes bytes (short_value register bytes (omega (arith, low)))

y_register : (register : ℕ) (bytes : List ℕ) → register / 16 < 2 ^ 32 → register % 16 ≡ 4 → register_at (register ∷ bytes) ≡ Ok (Y (register / 16), bytes)
unfolding single_of_tag
y_register register bytes fits low =
    ap (λ (t : CompactTag). register_of_tag t register bytes) (tag_is tag.Y register (low_tag register 4 low (omega arith)))
    ∙ y_read (register / 16) fits register bytes bytes (short_value register bytes (omega (arith, low)))

after_three : (code : List ℕ) (at register index : ℕ) (rest : List ℕ) → at < length code → drop at code ≡ 87 ∷ register ∷ index ∷ rest → length code - length rest ≡ at + 3
after_three code at register index rest within there = omega (arith, length-drop at code, within, ap length there)

x_typed : (c : CodeBytes) (at register index : ℕ) (rest : List ℕ) → IsTyped c.code at register index rest 3 → argument_at c at ≡ Some (argument.X (register / 16), at + 3)
unfolding argument_at
x_typed c at register index rest t =
    ap (argument_in c) (ap single_at t.there ∙ typed_single (X (register / 16)) register index rest (x_register register (index ∷ rest) t.fits.0 t.register_low) (type_read index rest t.fits.1 t.index_low))
    ∙ ap (λ (n : ℕ). Some (argument.X (register / 16), n)) (after_three c.code at register index rest t.within t.there)

y_typed : (c : CodeBytes) (at register index : ℕ) (rest : List ℕ) → IsTyped c.code at register index rest 4 → argument_at c at ≡ Some (argument.Y (register / 16), at + 3)
unfolding argument_at
y_typed c at register index rest t =
    ap (argument_in c) (ap single_at t.there ∙ typed_single (Y (register / 16)) register index rest (y_register register (index ∷ rest) t.fits.0 t.register_low) (type_read index rest t.fits.1 t.index_low))
    ∙ ap (λ (n : ℕ). Some (argument.Y (register / 16), n)) (after_three c.code at register index rest t.within t.there)

-- ---- the first bytes of some

pub first_two : (bytes : List ℕ) → 2 ≤ length bytes → bytes ≡ slice_index_or bytes 0 0 ∷ slice_index_or bytes 1 0 ∷ drop 2 bytes
first_two [] h = absurd (omega (arith, h))
first_two (a ∷ []) h = absurd (omega (arith, h))
first_two (a ∷ b ∷ rest) h = refl

pub first_three : (bytes : List ℕ) → 3 ≤ length bytes → bytes ≡ slice_index_or bytes 0 0 ∷ slice_index_or bytes 1 0 ∷ slice_index_or bytes 2 0 ∷ drop 3 bytes
first_three [] h = absurd (omega (arith, h))
first_three (a ∷ []) h = absurd (omega (arith, h))
first_three (a ∷ b ∷ []) h = absurd (omega (arith, h))
first_three (a ∷ b ∷ c ∷ rest) h = refl

pub wide_here : (c : CodeBytes) (at : ℕ) (k : CompactTag) → tag_number k < 6 → (bytes : List ℕ) → bytes ≡ drop at c.code → 2 ≤ length bytes → slice_index_or bytes 0 0 % 32 ≡ 8 + tag_number k
    → wide_number (slice_index_or bytes 0 0) (slice_index_or bytes 1 0) < 2 ^ 32 → IsSome (argument_at c at) → IsWide c.code at (slice_index_or bytes 0 0) (slice_index_or bytes 1 0) (drop 2 bytes) k
wide_here c at k one bytes same two low fits h =
    record { within = (lendable c at h).read.within; there = sym same ∙ first_two bytes two; fits = fits; low = low; one = one }

typed_here : (c : CodeBytes) (at low : ℕ) (bytes : List ℕ) → bytes ≡ drop at c.code → 3 ≤ length bytes → slice_index_or bytes 0 0 ≡ 87 → slice_index_or bytes 1 0 % 16 ≡ low → slice_index_or bytes 2 0 % 16 ≡ 0
    → slice_index_or bytes 1 0 / 16 < 2 ^ 32 → slice_index_or bytes 2 0 / 16 < 2 ^ 32 → IsSome (argument_at c at) → IsTyped c.code at (slice_index_or bytes 1 0) (slice_index_or bytes 2 0) (drop 3 bytes) low
typed_here c at low bytes same three first register index fits type_fits h =
    let all = sym same ∙ first_three bytes three in
    record {
      within = (lendable c at h).read.within;
      there = all ∙ ap (λ (b : ℕ). b ∷ slice_index_or bytes 1 0 ∷ slice_index_or bytes 2 0 ∷ drop 3 bytes) first;
      fits = (fits, type_fits);
      register_low = register;
      index_low = index;
    }

-- ---- the byte of a register or of an integer below 16

pub short_front : (c : CodeBytes) (at first : ℕ) → at < length c.code → drop at c.code ≡ first ∷ drop (at + 1) c.code → first < 256 → IsFront c at first (at + 1)
short_front c at first within there byte = (
  (λ low. short_argument c at first tag.Integer (record { within = within; there = there; byte = byte; low = low; one = omega arith })),
  (λ low. short_argument c at first tag.X (record { within = within; there = there; byte = byte; low = low; one = omega arith })),
  (λ low. short_argument c at first tag.Y (record { within = within; there = there; byte = byte; low = low; one = omega arith })),
)

no_integer : (register : ℕ) (bytes : List ℕ) → register % 16 ≡ 1 → register_at (register ∷ bytes) ≡ Err unsupported_operand
unfolding register_of_tag
no_integer register bytes low = ap (λ (t : CompactTag). register_of_tag t register bytes) (tag_is tag.Integer register (low_tag register 1 low (omega arith)))

no_typed_with : (register index : ℕ) (rest : List ℕ) → register_at (register ∷ index ∷ rest) ≡ Err unsupported_operand → single_at (87 ∷ register ∷ index ∷ rest) ≡ Err unsupported_operand
unfolding single_of_tag value_at extended_of
no_typed_with register index rest r = rw r refl

no_typed_integer : (c : CodeBytes) (at register index : ℕ) (rest : List ℕ) → drop at c.code ≡ 87 ∷ register ∷ index ∷ rest → register % 16 ≡ 1 → IsSome (argument_at c at) → ⊥
unfolding argument_at
no_typed_integer c at register index rest there low h =
    let none = ap (argument_in c) (ap single_at there ∙ no_typed_with register index rest (no_integer register (index ∷ rest) low)) in
    let some = ap is_some (sym none) ∙ h in
    absurd (cc (some))

pub typed_front : (c : CodeBytes) (at : ℕ) (bytes : List ℕ) → bytes ≡ drop at c.code → 3 ≤ length bytes → slice_index_or bytes 0 0 ≡ 87 → slice_index_or bytes 2 0 % 16 ≡ 0
    → slice_index_or bytes 1 0 / 16 < 2 ^ 32 → slice_index_or bytes 2 0 / 16 < 2 ^ 32 → IsSome (argument_at c at) → IsFront c at (slice_index_or bytes 1 0) (at + 3)
typed_front c at bytes same three first index fits type_fits h = (
  (λ low. absurd (no_typed_integer c at _ _ _ (typed_here c at 1 bytes same three first low index fits type_fits h).there low h)),
  (λ low. x_typed c at _ _ _ (typed_here c at 3 bytes same three first low index fits type_fits h)),
  (λ low. y_typed c at _ _ _ (typed_here c at 4 bytes same three first low index fits type_fits h)),
)
