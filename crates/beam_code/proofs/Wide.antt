-- Imports of one byte, and numbers and labels of two or three bytes, are read as the bytes say.
use Rattle.std.proofs.Common.{◌≡◌, inl, inr, ℕ, zero, suc, ◌+◌, ◌-◌, ◌*◌, ◌/◌, ◌%◌, ◌^◌, ◌<◌, ◌≤◌, pos, true, false, cond, ltb, eqb, List, [], ◌∷◌, length, get_or, take, drop, Option, Some, None, Ok, refl, sym, ap, subst, ◌∙◌, arith, slice_get, option_map, eqb-true, ltb-true, lt-ltb, le-ltb, length-drop}
use Rattle.std.proofs.lemmas.List.{take_rest}
use Rattle.beam_lemmas.proofs.Tests.{chosen}
use Rattle.byteorder.specs.Endian.{big_number}
use Rattle.beam_model.specs.declared.compact.CompactTag.{CompactTag}
use Rattle.beam_model.specs.declared.function.Import.{Import}
use Rattle.beam_model.specs.declared.instruction.Argument.{Argument}
use Rattle.beam_model.specs.declared.opcode.Kind.{Kind}
use Rattle.beam_model.specs.Prelude.{tag_number, value_at, operand_of_tag, operand_at, meaning_of, position_after, spelled_at, meant_at}
use Rattle.beam_term.specs.Prelude.{TermValue}
use Rattle.beam_model.specs.declared.compact.CompactTag.TheVariants as tag
use Rattle.beam_model.specs.declared.compact.CompactOperand.TheVariants as compact_operand
use Rattle.beam_model.specs.declared.instruction.Argument.TheVariants as argument
use Rattle.beam_model.specs.declared.instruction.Operand.TheVariants as operand
use Rattle.beam_model.specs.declared.opcode.Kind.TheVariants as kind
use Rattle.beam_operand.proofs.RoundTrip.{tag_is}
use Rattle.beam_code.specs.Prelude.{numbered_import, import_of_byte, number_in_two, number_in_three, wide_number, two_or_three, argument_of_bytes}
use Rattle.beam_code.proofs.Short.{short_of, wide_value, read_as}
use Rattle.beam_code.proofs.Whole.{IsByte, one_read, short_here, whole_meant}

-- ---- imports

imported : (atoms : List (List ℕ)) (imports : List Import) (literals : List TermValue) (code : List ℕ) (letter : Kind) (at first : ℕ) (i : Import) → IsByte code at first
    → ((n : ℕ) → meaning_of letter atoms imports literals (compact_operand.One (short_of tag.Number n)) ≡ option_map (λ j. operand.Import j) (slice_get imports n))
    → numbered_import imports first ≡ Some i → meant_at atoms imports literals code letter at ≡ Ok (operand.Import i, at + 1)
imported atoms imports literals code letter at first i b m e =
    elim (chosen (eqb (first % 16) 0) (slice_get imports (first / 16)) None (Some i) e) [
      | inl h ↦ whole_meant atoms imports literals code letter at first tag.Number (operand.Import i) (short_here code at first tag.Number b (omega arith) h.0) (m (first / 16) ∙ ap (option_map (λ j. operand.Import j)) h.1)
      | inr h ↦ absurd cc
    ]

import_here : (atoms : List (List ℕ)) (imports : List Import) (literals : List TermValue) (code : List ℕ) (letter : Kind) (at first : ℕ) (i : Import) → IsByte code at first
    → import_of_byte letter imports first ≡ Some i → meant_at atoms imports literals code letter at ≡ Ok (operand.Import i, at + 1)
unfolding meaning_of
import_here atoms imports literals code kind.Import at first i b e = imported atoms imports literals code kind.Import at first i b (λ n. refl) e
import_here atoms imports literals code (kind.Native arity) at first i b e = imported atoms imports literals code (kind.Native arity) at first i b (λ n. refl) e
import_here atoms imports literals code kind.Number at first i b e = absurd cc
import_here atoms imports literals code kind.Arity at first i b e = absurd cc
import_here atoms imports literals code kind.FrameSize at first i b e = absurd cc
import_here atoms imports literals code kind.Source at first i b e = absurd cc
import_here atoms imports literals code kind.Register at first i b e = absurd cc
import_here atoms imports literals code kind.Label at first i b e = absurd cc
import_here atoms imports literals code kind.FailLabel at first i b e = absurd cc
import_here atoms imports literals code kind.Atom at first i b e = absurd cc
import_here atoms imports literals code kind.List at first i b e = absurd cc

pub import_meant : (atoms : List (List ℕ)) (imports : List Import) (literals : List TermValue) (code : List ℕ) (letter : Kind) (at first : ℕ) (i : Import) → at < length code → first ≡ get_or code at first → first < 256
    → import_of_byte letter imports first ≡ Some i → meant_at atoms imports literals code letter at ≡ Ok (operand.Import i, at + 1)
import_meant atoms imports literals code letter at first i within there byte e =
    import_here atoms imports literals code letter at first i (record { within = within; there = there; byte = byte }) e

-- ---- numbers of two or three bytes

-- all these numbers are bytes
abbrev pub AreBytes : List ℕ → Type 0
AreBytes [] = Unit {0}
AreBytes (b ∷ bs) = (b < 256) × AreBytes bs

pub are_bytes : (bytes : List ℕ) → ((i : ℕ) → get_or bytes i 0 < 256) → AreBytes bytes
are_bytes [] each = tt
are_bytes (b ∷ bs) each = (each 0, are_bytes bs (λ i. each (suc i)))

bytes_behind : (at : ℕ) (code : List ℕ) → AreBytes code → AreBytes (drop at code)
bytes_behind zero code b = b
bytes_behind (suc at) [] b = tt
bytes_behind (suc at) (c ∷ code) b = bytes_behind at code b.1

-- a number under a tag, and the bytes after it
record IsWide (bytes : List ℕ) (k : CompactTag) (n count : ℕ) : Type 0 where
  first : ℕ
  more : List ℕ
  rest : List ℕ
  parts : bytes ≡ first ∷ more
  low : first % 8 ≡ tag_number k
  fits : n < 2 ^ 32
  value : value_at first more ≡ Ok (pos n, rest)
  size : length bytes ≡ count + length rest

three_value : (first second third : ℕ) (rest : List ℕ) → 24 ≤ first → first < 32 → second < 128 → third < 256 → value_at first (second ∷ third ∷ rest) ≡ Ok (pos (second * 256 + third), rest)
unfolding value_at
three_value first second third rest ge lt half byte =
    let long : ltb (first % 16) 8 ≡ false = le-ltb _ _ (omega (arith, ge, lt)) in
    let longer : ltb (first % 32) 16 ≡ false = le-ltb _ _ (omega (arith, ge, lt)) in
    let none : first / 32 ≡ 0 = omega (arith, lt) in
    let number : big_number 2 (second ∷ third ∷ rest) ≡ second * 256 + third = omega arith in
    let unsigned : ltb (second * 256 + third) (2 ^ 15) ≡ true = lt-ltb _ _ (omega (arith, half, byte)) in
    let enough : ltb (length (second ∷ third ∷ rest)) 2 ≡ false = le-ltb _ _ (omega arith) in
    rw (long, longer, none, enough, number, unsigned) refl

two_read : (k : CompactTag) (bytes : List ℕ) (n : ℕ) → tag_number k < 6 → AreBytes bytes → number_in_two (tag_number k) bytes ≡ Some n → IsWide bytes k n 2
two_read k [] n one b e = absurd cc
two_read k (first ∷ []) n one b e = absurd cc
two_read k (first ∷ second ∷ rest) n one b e =
    elim (chosen (eqb (first % 32) (tag_number k + 8)) (Some (first / 32 * 256 + second)) None (Some n) e) [
      | inl h ↦
          let low : first % 32 ≡ tag_number k + 8 = eqb-true _ _ h.0 in
          let is : first / 32 * 256 + second ≡ n = cc in
          let bound : first < 256 = b.0 in
          let next : second < 256 = b.1.0 in
          record {
            first = first;
            more = second ∷ rest;
            rest = rest;
            parts = refl;
            low = omega (arith, low, one);
            fits = omega (arith, is, bound, next);
            value = wide_value first second rest (omega (arith, low)) (omega (arith, low, one)) ∙ ap (λ (m : ℕ). Ok (pos m, rest)) is;
            size = omega arith;
          }
      | inr h ↦ absurd cc
    ]

three_read : (k : CompactTag) (bytes : List ℕ) (n : ℕ) → tag_number k < 6 → AreBytes bytes → number_in_three (tag_number k) bytes ≡ Some n → IsWide bytes k n 3
three_read k [] n one b e = absurd cc
three_read k (first ∷ []) n one b e = absurd cc
three_read k (first ∷ second ∷ []) n one b e = absurd cc
three_read k (first ∷ second ∷ third ∷ rest) n one b e =
    elim (chosen (eqb first (tag_number k + 24)) (cond (ltb second 128) (Some (second * 256 + third)) None) None (Some n) e) [
      | inl g ↦ elim (chosen (ltb second 128) (Some (second * 256 + third)) None (Some n) g.1) [
        | inl h ↦
            let low : first ≡ tag_number k + 24 = eqb-true _ _ g.0 in
            let half : second < 128 = ltb-true _ _ h.0 in
            let is : second * 256 + third ≡ n = cc in
            let last : third < 256 = b.1.1.0 in
            record {
              first = first;
              more = second ∷ third ∷ rest;
              rest = rest;
              parts = refl;
              low = omega (arith, low, one);
              fits = omega (arith, is, half, last);
              value = three_value first second third rest (omega (arith, low)) (omega (arith, low, one)) half last ∙ ap (λ (m : ℕ). Ok (pos m, rest)) is;
              size = omega arith;
            }
        | inr h ↦ absurd cc
      ]
      | inr g ↦ absurd cc
    ]

some_read : (k : CompactTag) (bytes : List ℕ) (p : ℕ × ℕ) → tag_number k < 6 → AreBytes bytes → wide_number (tag_number k) bytes ≡ Some p → IsWide bytes k p.0 p.1
some_read k bytes p one b e = by (number_in_two (tag_number k) bytes) refl (number_in_three (tag_number k) bytes) refl e
  where
    by : (two : Option ℕ) → number_in_two (tag_number k) bytes ≡ two → (three : Option ℕ) → number_in_three (tag_number k) bytes ≡ three → two_or_three two three ≡ Some p → IsWide bytes k p.0 p.1
    by (Some n) is three other e =
        let same : (n, 2) ≡ p = cc in
        subst (λ (q : ℕ × ℕ). IsWide bytes k q.0 q.1) same (two_read k bytes n one b is)
    by None is (Some n) other e =
        let same : (n, 3) ≡ p = cc in
        subst (λ (q : ℕ × ℕ). IsWide bytes k q.0 q.1) same (three_read k bytes n one b other)
    by None is None other e = absurd cc

-- ---- where they stand

-- an argument that is read from a position, and how many bytes it has
pub record IsReadIn (atoms : List (List ℕ)) (imports : List Import) (literals : List TermValue) (code : List ℕ) (letter : Kind) (at : ℕ) (p : Argument × ℕ) : Type 0 where
  pub within : at + p.1 ≤ length code
  pub is : meant_at atoms imports literals code letter at ≡ Ok (operand.One p.0, at + p.1)

wide_spelled : (code : List ℕ) (at : ℕ) (k : CompactTag) (n count : ℕ) → at ≤ length code → tag_number k < 6 → IsWide (drop at code) k n count → spelled_at code at ≡ Ok (compact_operand.One (short_of k n), at + count)
unfolding spelled_at
wide_spelled code at k n count le one w =
    let next : length code - length w.rest ≡ at + count = omega (arith, length-drop at code, w.size, le) in
    ap (position_after code at)
    (ap operand_at w.parts
    ∙ ap (λ (t : CompactTag). operand_of_tag t w.first w.more) (tag_is k w.first w.low)
    ∙ one_read k one w.first w.more w.rest (short_of k n) (read_as k one n w.first w.more w.rest w.fits w.value))
    ∙ ap (λ (m : ℕ). Ok (compact_operand.One (short_of k n), m)) next

wide_read : (atoms : List (List ℕ)) (imports : List Import) (literals : List TermValue) (code : List ℕ) (letter : Kind) (at : ℕ) (k : CompactTag) (a : Argument) (n count : ℕ) → at ≤ length code → tag_number k < 6
    → IsWide (drop at code) k n count → meaning_of letter atoms imports literals (compact_operand.One (short_of k n)) ≡ Some (operand.One a) → IsReadIn atoms imports literals code letter at (a, count)
unfolding meant_at
wide_read atoms imports literals code letter at k a n count le one w m = record {
  within = omega (arith, length-drop at code, w.size, le);
  is = rw (wide_spelled code at k n count le one w, m) refl;
}

abbrev Number : Type 0
Number = ℕ × ℕ

-- a number under a tag that means an argument under a letter
told : (atoms : List (List ℕ)) (imports : List Import) (literals : List TermValue) (code : List ℕ) (letter : Kind) (at : ℕ) (k : CompactTag) (make : ℕ → Argument) (p : Argument × ℕ) → at ≤ length code → tag_number k < 6
    → AreBytes (drop at code) → ((n : ℕ) → meaning_of letter atoms imports literals (compact_operand.One (short_of k n)) ≡ Some (operand.One (make n)))
    → option_map (λ q. (make q.0, q.1)) (wide_number (tag_number k) (drop at code)) ≡ Some p → IsReadIn atoms imports literals code letter at p
told atoms imports literals code letter at k make p le one b m e = by (wide_number (tag_number k) (drop at code)) refl e
  where
    by : (o : Option Number) → wide_number (tag_number k) (drop at code) ≡ o → option_map (λ q. (make q.0, q.1)) o ≡ Some p → IsReadIn atoms imports literals code letter at p
    by (Some q) is e =
        let same : (make q.0, q.1) ≡ p = cc in
        subst (λ (r : Argument × ℕ). IsReadIn atoms imports literals code letter at r) same
        (wide_read atoms imports literals code letter at k (make q.0) q.0 q.1 le one (some_read k (drop at code) q one b is) (m q.0))
    by None is e = absurd cc

rest_meant : (atoms : List (List ℕ)) (imports : List Import) (literals : List TermValue) (code : List ℕ) (letter : Kind) (at : ℕ) (p : Argument × ℕ) → at ≤ length code → AreBytes (drop at code)
    → argument_of_bytes letter (drop at code) ≡ Some p → IsReadIn atoms imports literals code letter at p
unfolding meaning_of
rest_meant atoms imports literals code kind.Number at p le b e = told atoms imports literals code kind.Number at tag.Number (λ n. argument.Number n) p le (omega arith) b (λ n. refl) e
rest_meant atoms imports literals code kind.Label at p le b e = told atoms imports literals code kind.Label at tag.Label (λ n. argument.Label n) p le (omega arith) b (λ n. refl) e
rest_meant atoms imports literals code kind.FailLabel at p le b e = told atoms imports literals code kind.FailLabel at tag.Label (λ n. argument.Label n) p le (omega arith) b (λ n. refl) e
rest_meant atoms imports literals code kind.Arity at p le b e = absurd cc
rest_meant atoms imports literals code kind.FrameSize at p le b e = absurd cc
rest_meant atoms imports literals code kind.Source at p le b e = absurd cc
rest_meant atoms imports literals code kind.Register at p le b e = absurd cc
rest_meant atoms imports literals code kind.Atom at p le b e = absurd cc
rest_meant atoms imports literals code kind.Import at p le b e = absurd cc
rest_meant atoms imports literals code (kind.Native arity) at p le b e = absurd cc
rest_meant atoms imports literals code kind.List at p le b e = absurd cc

pub bytes_meant : (atoms : List (List ℕ)) (imports : List Import) (literals : List TermValue) (code : List ℕ) (letter : Kind) (at : ℕ) (p : Argument × ℕ) → at ≤ length code → AreBytes code
    → argument_of_bytes letter (take (length code - at) (drop at code)) ≡ Some p → IsReadIn atoms imports literals code letter at p
bytes_meant atoms imports literals code letter at p le b e =
    let rest : take (length code - at) (drop at code) ≡ drop at code = take_rest code at in
    rest_meant atoms imports literals code letter at p le (bytes_behind at code b) (ap (argument_of_bytes letter) (sym rest) ∙ e)
