-- An operand that one byte spells as a whole is read as the byte says.
use Rattle.std.proofs.Common.{◌≡◌, ◌⊎◌, inl, inr, ℕ, ◌+◌, ◌/◌, ◌%◌, ◌<◌, pos, Bool, true, false, cond, eqb, List, ◌∷◌, length, get_or, drop, Option, Some, None, Ok, refl, sym, ap, ◌∙◌, arith, eqb-true}
use Rattle.std.proofs.lemmas.List.{drop_more}
use Rattle.beam_model.specs.declared.compact.CompactTag.{CompactTag}
use Rattle.beam_model.specs.declared.compact.Compact.{Compact}
use Rattle.beam_model.specs.declared.function.Import.{Import}
use Rattle.beam_model.specs.declared.instruction.Argument.{Argument}
use Rattle.beam_model.specs.declared.instruction.Operand.{Operand}
use Rattle.beam_model.specs.declared.opcode.Kind.{Kind}
use Rattle.beam_model.specs.Prelude.{tag_number, as_operand, single_of_tag, operand_of_tag, operand_at, meaning_of, position_after, spelled_at, meant_at}
use Rattle.beam_term.specs.Prelude.{TermValue, int_term}
use Rattle.beam_model.specs.declared.compact.CompactTag.TheVariants as tag
use Rattle.beam_model.specs.declared.compact.CompactOperand.TheVariants as compact_operand
use Rattle.beam_model.specs.declared.instruction.Argument.TheVariants as argument
use Rattle.beam_model.specs.declared.instruction.Operand.TheVariants as operand
use Rattle.beam_model.specs.declared.opcode.Kind.TheVariants as kind
use Rattle.beam_operand.proofs.RoundTrip.{tag_is}
use Rattle.beam_code.specs.Prelude.{number_of_byte, register_of_byte, label_of_byte, argument_of_byte}
use Rattle.beam_code.proofs.Short.{IsShort, short_of, low_tag, short_value, read_as, next_is}

pub one_read : (k : CompactTag) → tag_number k < 6 → (first : ℕ) (bytes rest : List ℕ) (x : Compact) → single_of_tag k first bytes ≡ Ok (x, rest) → operand_of_tag k first bytes ≡ Ok (compact_operand.One x, rest)
unfolding operand_of_tag
one_read tag.Number lt first bytes rest x e = ap as_operand e
one_read tag.Integer lt first bytes rest x e = ap as_operand e
one_read tag.Atom lt first bytes rest x e = ap as_operand e
one_read tag.X lt first bytes rest x e = ap as_operand e
one_read tag.Y lt first bytes rest x e = ap as_operand e
one_read tag.Label lt first bytes rest x e = ap as_operand e
one_read tag.Character lt first bytes rest x e = absurd (omega arith)
one_read tag.Extended lt first bytes rest x e = absurd (omega arith)

-- a byte's operand, whatever its letter
whole_read : (code : List ℕ) (at first : ℕ) (k : CompactTag) → IsShort code at first k → operand_at (drop at code) ≡ Ok (compact_operand.One (short_of k (first / 16)), drop (at + 1) code)
whole_read code at first k s =
    let rest = drop (at + 1) code in
    let byte : first < 256 = s.byte in
    let low : first % 16 ≡ tag_number k = s.low in
    let single_tag : tag_number k < 6 = s.one in
    let value = short_value first rest (omega (arith, low, single_tag)) in
    ap operand_at s.there
    ∙ ap (λ (t : CompactTag). operand_of_tag t first rest) (tag_is k first (low_tag first (tag_number k) low (omega (arith, single_tag))))
    ∙ one_read k single_tag first rest rest (short_of k (first / 16)) (read_as k single_tag (first / 16) first rest rest (omega (arith, byte)) value)

whole_spelled : (code : List ℕ) (at first : ℕ) (k : CompactTag) → IsShort code at first k → spelled_at code at ≡ Ok (compact_operand.One (short_of k (first / 16)), at + 1)
unfolding spelled_at
whole_spelled code at first k s =
    ap (position_after code at) (whole_read code at first k s)
    ∙ ap (λ (n : ℕ). Ok (compact_operand.One (short_of k (first / 16)), n)) (next_is code at s.within)

pub whole_meant : (atoms : List (List ℕ)) (imports : List Import) (literals : List TermValue) (code : List ℕ) (letter : Kind) (at first : ℕ) (k : CompactTag) (o : Operand) → IsShort code at first k
    → meaning_of letter atoms imports literals (compact_operand.One (short_of k (first / 16))) ≡ Some o → meant_at atoms imports literals code letter at ≡ Ok (o, at + 1)
unfolding meant_at
whole_meant atoms imports literals code letter at first k o s m = rw (whole_spelled code at first k s, m) refl

-- a byte where it stands
pub record IsByte (code : List ℕ) (at first : ℕ) : Type 0 where
  pub within : at < length code
  pub there : first ≡ get_or code at first
  pub byte : first < 256

pub short_here : (code : List ℕ) (at first : ℕ) (k : CompactTag) → IsByte code at first → tag_number k < 6 → eqb (first % 16) (tag_number k) ≡ true → IsShort code at first k
short_here code at first k b single_tag low =
    let there : drop at code ≡ first ∷ drop (at + 1) code = drop_more code at first b.within ∙ ap (λ (n : ℕ). n ∷ drop (at + 1) code) (sym b.there) in
    record { within = b.within; there = there; byte = b.byte; low = eqb-true _ _ low; one = single_tag }

one_here : (atoms : List (List ℕ)) (imports : List Import) (literals : List TermValue) (code : List ℕ) (letter : Kind) (at first : ℕ) (k : CompactTag) (a b : Argument) → IsByte code at first → tag_number k < 6
    → meaning_of letter atoms imports literals (compact_operand.One (short_of k (first / 16))) ≡ Some (operand.One b) → (eqb (first % 16) (tag_number k) ≡ true) × (b ≡ a)
    → meant_at atoms imports literals code letter at ≡ Ok (operand.One a, at + 1)
one_here atoms imports literals code letter at first k a b is single_tag m h =
    whole_meant atoms imports literals code letter at first k (operand.One b) (short_here code at first k is single_tag h.0) m
    ∙ ap (λ (x : Argument). Ok (operand.One x, at + 1)) h.1

guarded : (b : Bool) (x : Argument) (other : Option Argument) (a : Argument) → cond b (Some x) other ≡ Some a → ((b ≡ true) × (x ≡ a)) ⊎ (other ≡ Some a)
guarded true x other a e = inl (refl, cc)
guarded false x other a e = inr e

-- numbers, by their letter
number_here : (atoms : List (List ℕ)) (imports : List Import) (literals : List TermValue) (code : List ℕ) (letter : Kind) (at first : ℕ) (a : Argument) → IsByte code at first
    → ((n : ℕ) → meaning_of letter atoms imports literals (compact_operand.One (short_of tag.Number n)) ≡ Some (operand.One (argument.Number n)))
    → number_of_byte first ≡ Some a → meant_at atoms imports literals code letter at ≡ Ok (operand.One a, at + 1)
number_here atoms imports literals code letter at first a is m e =
    elim (guarded (eqb (first % 16) 0) (argument.Number (first / 16)) None a e) [
      | inl h ↦ one_here atoms imports literals code letter at first tag.Number a (argument.Number (first / 16)) is (omega arith) (m (first / 16)) h
      | inr h ↦ absurd cc
    ]

label_here : (atoms : List (List ℕ)) (imports : List Import) (literals : List TermValue) (code : List ℕ) (letter : Kind) (at first : ℕ) (a : Argument) → IsByte code at first
    → ((n : ℕ) → meaning_of letter atoms imports literals (compact_operand.One (short_of tag.Label n)) ≡ Some (operand.One (argument.Label n)))
    → label_of_byte first ≡ Some a → meant_at atoms imports literals code letter at ≡ Ok (operand.One a, at + 1)
label_here atoms imports literals code letter at first a is m e =
    elim (guarded (eqb (first % 16) 5) (argument.Label (first / 16)) None a e) [
      | inl h ↦ one_here atoms imports literals code letter at first tag.Label a (argument.Label (first / 16)) is (omega arith) (m (first / 16)) h
      | inr h ↦ absurd cc
    ]

register_here : (atoms : List (List ℕ)) (imports : List Import) (literals : List TermValue) (code : List ℕ) (letter : Kind) (at first : ℕ) (a : Argument) → IsByte code at first
    → ((n : ℕ) → meaning_of letter atoms imports literals (compact_operand.One (short_of tag.X n)) ≡ Some (operand.One (argument.X n)))
    → ((n : ℕ) → meaning_of letter atoms imports literals (compact_operand.One (short_of tag.Y n)) ≡ Some (operand.One (argument.Y n)))
    → register_of_byte first ≡ Some a → meant_at atoms imports literals code letter at ≡ Ok (operand.One a, at + 1)
register_here atoms imports literals code letter at first a is mx my e =
    elim (guarded (eqb (first % 16) 3) (argument.X (first / 16)) (cond (eqb (first % 16) 4) (Some (argument.Y (first / 16))) None) a e) [
      | inl h ↦ one_here atoms imports literals code letter at first tag.X a (argument.X (first / 16)) is (omega arith) (mx (first / 16)) h
      | inr g ↦ elim (guarded (eqb (first % 16) 4) (argument.Y (first / 16)) None a g) [
        | inl h ↦ one_here atoms imports literals code letter at first tag.Y a (argument.Y (first / 16)) is (omega arith) (my (first / 16)) h
        | inr h ↦ absurd cc
      ]
    ]

source_here : (atoms : List (List ℕ)) (imports : List Import) (literals : List TermValue) (code : List ℕ) (at first : ℕ) (a : Argument) → IsByte code at first
    → argument_of_byte kind.Source first ≡ Some a → meant_at atoms imports literals code kind.Source at ≡ Ok (operand.One a, at + 1)
unfolding meaning_of
source_here atoms imports literals code at first a is e =
    elim (guarded (eqb (first % 16) 1) (argument.Term (int_term (pos (first / 16)))) (register_of_byte first) a e) [
      | inl h ↦ one_here atoms imports literals code kind.Source at first tag.Integer a (argument.Term (int_term (pos (first / 16)))) is (omega arith) refl h
      | inr h ↦ register_here atoms imports literals code kind.Source at first a is (λ n. refl) (λ n. refl) h
    ]

meant_here : (atoms : List (List ℕ)) (imports : List Import) (literals : List TermValue) (code : List ℕ) (letter : Kind) (at first : ℕ) (a : Argument) → IsByte code at first
    → argument_of_byte letter first ≡ Some a → meant_at atoms imports literals code letter at ≡ Ok (operand.One a, at + 1)
unfolding meaning_of
meant_here atoms imports literals code kind.Number at first a is e = number_here atoms imports literals code kind.Number at first a is (λ n. refl) e
meant_here atoms imports literals code kind.Arity at first a is e = number_here atoms imports literals code kind.Arity at first a is (λ n. refl) e
meant_here atoms imports literals code kind.FrameSize at first a is e = number_here atoms imports literals code kind.FrameSize at first a is (λ n. refl) e
meant_here atoms imports literals code kind.Source at first a is e = source_here atoms imports literals code at first a is e
meant_here atoms imports literals code kind.Register at first a is e = register_here atoms imports literals code kind.Register at first a is (λ n. refl) (λ n. refl) e
meant_here atoms imports literals code kind.Label at first a is e = label_here atoms imports literals code kind.Label at first a is (λ n. refl) e
meant_here atoms imports literals code kind.FailLabel at first a is e = label_here atoms imports literals code kind.FailLabel at first a is (λ n. refl) e
meant_here atoms imports literals code kind.Atom at first a is e = absurd cc
meant_here atoms imports literals code kind.Import at first a is e = absurd cc
meant_here atoms imports literals code (kind.Native arity) at first a is e = absurd cc
meant_here atoms imports literals code kind.List at first a is e = absurd cc

-- what a byte means under its letter is the operand there
pub byte_meant : (atoms : List (List ℕ)) (imports : List Import) (literals : List TermValue) (code : List ℕ) (letter : Kind) (at first : ℕ) (a : Argument) → at < length code → first ≡ get_or code at first → first < 256
    → argument_of_byte letter first ≡ Some a → meant_at atoms imports literals code letter at ≡ Ok (operand.One a, at + 1)
byte_meant atoms imports literals code letter at first a within there byte e =
    meant_here atoms imports literals code letter at first a (record { within = within; there = there; byte = byte }) e
