-- A Code chunk that was written is read again.
use Rattle.std.proofs.Common.{◌≡◌, ℕ, zero, suc, ◌+◌, ◌-◌, ◌*◌, ◌<◌, ◌≤◌, true, false, ltb, eqb, List, [], ◌∷◌, ◌++◌, length, drop, Option, Some, None, Result, Ok, refl, sym, ap, subst, ◌∙◌, append_assoc, arith, length-append, slice_get, option_map, map, le-ltb, eqb-true, drop_at, drop-drop}
use Rattle.std.specs.List.{list_all, All, zip}
use Rattle.std.proofs.lemmas.List.Elements.{All-head, All-tail}
use Rattle.std.proofs.lemmas.Bool.{and_parts}
use Rattle.beam_lemmas.proofs.Options.{mapped}
use Rattle.byteorder.specs.Endian.{big_number, big_bytes}
use Rattle.byteorder.specs.Numbers.{big_number-reads_back}
use Rattle.beam_model.specs.declared.instruction.Operand.{Operand}
use Rattle.beam_model.specs.declared.instruction.Instruction.{Instruction}
use Rattle.beam_model.specs.declared.opcode.Kind.{Kind}
use Rattle.beam_model.specs.declared.opcode.Opcode.{Opcode}
use Rattle.beam_model.specs.Prelude.{number_of, kinds_of, operand_at, CodeParts, CodeFault, spelled_at, meant_at, operands_at, or_unsupported_opcode, opcode_in, opcode_at, listed_operands, instruction_after_opcode, instructions_at, word_at, expected_at, code_of, all_operands, is_within, Numbering, both, operand_bytes, operands_bytes, instruction_bytes, instructions_bytes, greatest_opcode, word, words_bytes, code_bytes, without_line_number}
use Rattle.beam_model.specs.declared.opcode.Opcode.TheVariants as op
use Rattle.beam_model.specs.CodeChunk.{is_end}
use Rattle.beam_operand.proofs.RoundTrip.{operand_again}
use Rattle.beam_code.proofs.Meaning.{word_is, operand_spelled}
use Rattle.beam_code.proofs.Codes.{opcode_again}

-- these bytes stand in the code from a position to the end
record Stands (code : List ℕ) (at : ℕ) (bytes : List ℕ) : Type 0 where
  there : drop at code ≡ bytes
  rest : at + length bytes ≡ length code

stands_behind : (code : List ℕ) (at : ℕ) (front bytes : List ℕ) → Stands code at (front ++ bytes) → Stands code (at + length front) bytes
stands_behind code at front bytes s =
    let dropped : drop (at + length front) code ≡ bytes = sym (drop-drop (length front) at code) ∙ ap (drop (length front)) s.there ∙ drop_at front bytes (length front) refl in
    record { there = dropped; rest = omega (arith, s.rest, length-append front bytes) }

abbrev found : ℕ → Option ℕ
found y = Some y

first_there : (code : List ℕ) (at x : ℕ) (bytes : List ℕ) → drop at code ≡ x ∷ bytes → slice_get code at ≡ Some x
first_there [] zero x bytes e = absurd cc
first_there [] (suc at) x bytes e = absurd cc
first_there (c ∷ code) zero x bytes e = let same : c ≡ x = cc in ap found same
first_there (c ∷ code) (suc at) x bytes e = first_there code at x bytes e

-- ---- what both are

both_is : (a b : Option (List ℕ)) (bytes : List ℕ) → both a b ≡ Some bytes → (x : List ℕ) × (y : List ℕ) × (a ≡ Some x) × (b ≡ Some y) × (x ++ y ≡ bytes)
both_is (Some x) (Some y) bytes e = (x, y, refl, refl, cc)
both_is (Some x) None bytes e = absurd cc
both_is None b bytes e = absurd cc

-- ---- operands

-- an operand of a kind, where its bytes stand
meant_there : (n : Numbering) (k : Kind) (o : Operand) (bytes rest code : List ℕ) (at : ℕ) → is_within k o ≡ true → operand_bytes n o ≡ Some bytes → Stands code at (bytes ++ rest)
    → meant_at n.atoms n.imports n.literals code k at ≡ Ok (o, at + length bytes)
unfolding meant_at spelled_at
meant_there n k o bytes rest code at w e s =
    let p = operand_spelled n k o bytes w e in
    let read : operand_at (drop at code) ≡ Ok (p.operand, rest) = ap operand_at s.there ∙ operand_again p.operand bytes rest p.meant.fits p.spells in
    let next : length code - length rest ≡ at + length bytes = omega (arith, s.rest, length-append bytes rest) in
    let m = p.meant.means in
    rw (read, m, next) refl

abbrev no_operands : ℕ → Result (List Operand × ℕ) CodeFault
no_operands at = Ok ([], at)

-- operands of these kinds, one after the other
abbrev AllWithin : List Kind → List Operand → Type 0
AllWithin [] [] = Unit {0}
AllWithin [] (o ∷ os) = ⊥
AllWithin (k ∷ ks) [] = ⊥
AllWithin (k ∷ ks) (o ∷ os) = (is_within k o ≡ true) × AllWithin ks os

within_all : (ks : List Kind) (os : List Operand) → length ks ≡ length os → list_all (λ p. is_within p.0 p.1) (zip ks os) ≡ true → AllWithin ks os
within_all [] [] same e = tt
within_all [] (o ∷ os) same e = absurd (omega arith)
within_all (k ∷ ks) [] same e = absurd (omega arith)
within_all (k ∷ ks) (o ∷ os) same e =
    let s = and_parts (is_within k o) (list_all (λ p. is_within p.0 p.1) (zip ks os)) e in
    (s.0, within_all ks os (omega arith) s.1)

all_within : (ks : List Kind) (os : List Operand) → all_operands is_within ks os ≡ true → AllWithin ks os
all_within ks os e =
    let s = and_parts (eqb (length ks) (length os)) (list_all (λ p. is_within p.0 p.1) (zip ks os)) e in
    within_all ks os (eqb-true _ _ s.0) s.1

operands_there : (n : Numbering) (ks : List Kind) (os : List Operand) (bytes rest code : List ℕ) (at : ℕ) → AllWithin ks os → operands_bytes n os ≡ Some bytes → Stands code at (bytes ++ rest)
    → operands_at n.atoms n.imports n.literals code ks at ≡ Ok (os, at + length bytes)
unfolding operands_at operands_bytes
operands_there n [] [] bytes rest code at w e s =
    let none : [] ≡ bytes = cc in
    let here : at ≡ at + length bytes = omega (arith, ap length (sym none)) in
    ap no_operands here
operands_there n [] (o ∷ os) bytes rest code at w e s = absurd w
operands_there n (k ∷ ks) [] bytes rest code at w e s = absurd w
operands_there n (k ∷ ks) (o ∷ os) bytes rest code at w e s =
    let b = both_is (operand_bytes n o) (operands_bytes n os) bytes e in
    let first_stands : Stands code at (b.0 ++ (b.1 ++ rest)) = subst (Stands code at) (ap (λ (t : List ℕ). t ++ rest) (sym b.4) ∙ append_assoc b.0 b.1 rest) s in
    let first = meant_there n k o b.0 (b.1 ++ rest) code at w.0 b.2 first_stands in
    let others = operands_there n ks os b.1 rest code (at + length b.0) w.1 b.3 (stands_behind code at b.0 (b.1 ++ rest) first_stands) in
    let next : at + length b.0 + length b.1 ≡ at + length bytes = omega (arith, length-append b.0 b.1, ap length b.4) in
    rw (first, others, next) refl

-- ---- instructions

-- an instruction that a chunk can have: not int_code_end, with operands of its opcode's kinds
abbrev pub IsWritable : Instruction → Type 0
IsWritable i = (is_end i.opcode ≡ false) × (all_operands is_within (kinds_of i.opcode) i.operands ≡ true)

listed_within : (o : Opcode) (os : List Operand) → AllWithin (kinds_of o) os → AllWithin (kinds_of o) (listed_operands o os)
listed_within op.Line os w = (refl, tt)
listed_within _ os w = w

pub listed_once : (o : Opcode) (os : List Operand) → listed_operands o (listed_operands o os) ≡ listed_operands o os
listed_once op.Line os = refl
listed_once _ os = refl

opcode_there : (o : Opcode) (bytes code : List ℕ) (at : ℕ) → Stands code at (number_of o ∷ bytes) → opcode_at code at ≡ Ok o
unfolding opcode_at
opcode_there o bytes code at s =
    ap (opcode_in at) (first_there code at (number_of o) bytes s.there) ∙ ap (or_unsupported_opcode at (number_of o)) (opcode_again o)

stands_next : (code : List ℕ) (at x : ℕ) (bytes : List ℕ) → Stands code at (x ∷ bytes) → Stands code (at + 1) bytes
stands_next code at x bytes s = stands_behind code at (x ∷ []) bytes s

-- the operands of an instruction stand after its opcode
instruction_there : (n : Numbering) (i : Instruction) (bytes rest code : List ℕ) (at : ℕ) → IsWritable i → operands_bytes n (listed_operands i.opcode i.operands) ≡ Some bytes → Stands code at (bytes ++ rest)
    → instruction_after_opcode n.atoms n.imports n.literals code i.opcode at ≡ Ok (without_line_number i, at + length bytes)
unfolding instruction_after_opcode
instruction_there n i bytes rest code at w e s =
    let within = listed_within i.opcode i.operands (all_within (kinds_of i.opcode) i.operands w.1) in
    let read = operands_there n (kinds_of i.opcode) (listed_operands i.opcode i.operands) bytes rest code at within e s in
    let once = listed_once i.opcode i.operands in
    rw (read, once) refl

-- the bytes of an instruction: its opcode, and its operands
record HasOpcode (n : Numbering) (i : Instruction) (bytes : List ℕ) : Type 0 where
  operands : List ℕ
  spelled : operands_bytes n (listed_operands i.opcode i.operands) ≡ Some operands
  are : number_of i.opcode ∷ operands ≡ bytes

has_opcode : (n : Numbering) (i : Instruction) (bytes : List ℕ) → instruction_bytes n i ≡ Some bytes → HasOpcode n i bytes
unfolding instruction_bytes
has_opcode n i bytes e =
    let b = both_is (Some (number_of i.opcode ∷ [])) (operands_bytes n (listed_operands i.opcode i.operands)) bytes e in
    let front : number_of i.opcode ∷ [] ≡ b.0 = cc (b.2) in
    record { operands = b.1; spelled = b.3; are = ap (λ (f : List ℕ). f ++ b.1) front ∙ b.4 }

-- instructions up to int_code_end, fewer than the limit
instructions_there : (n : Numbering) (limit : ℕ) (is : List Instruction) (bytes rest code : List ℕ) (at : ℕ) → All IsWritable is → instructions_bytes n is ≡ Some bytes
    → Stands code at (bytes ++ (3 ∷ rest)) → length is < limit → instructions_at n.atoms n.imports n.literals code limit at ≡ Ok (map without_line_number is)
unfolding instructions_at instructions_bytes
instructions_there n zero is bytes rest code at w e s few = absurd (omega arith)
instructions_there n (suc limit) [] bytes rest code at w e s few =
    let none : [] ≡ bytes = cc in
    let here : Stands code at (3 ∷ rest) = subst (λ (b : List ℕ). Stands code at (b ++ (3 ∷ rest))) (sym none) s in
    rw (opcode_there op.IntCodeEnd rest code at here) refl
instructions_there n (suc limit) (i ∷ is) bytes rest code at w e s few =
    let b = both_is (instruction_bytes n i) (instructions_bytes n is) bytes e in
    let o = has_opcode n i b.0 b.2 in
    let behind_all = b.1 ++ (3 ∷ rest) in
    let first_stands : Stands code at (number_of i.opcode ∷ (o.operands ++ behind_all)) =
    subst (Stands code at) (ap (λ (t : List ℕ). t ++ (3 ∷ rest)) (sym b.4) ∙ append_assoc b.0 b.1 (3 ∷ rest) ∙ ap (λ (t : List ℕ). t ++ behind_all) (sym o.are)) s in
    let opcode = opcode_there i.opcode (o.operands ++ behind_all) code at first_stands in
    let operands_stand = stands_next code at (number_of i.opcode) (o.operands ++ behind_all) first_stands in
    let not_end : is_end i.opcode ≡ false = (All-head IsWritable i is w).0 in
    let first = instruction_there n i o.operands behind_all code (at + 1) (All-head IsWritable i is w) o.spelled operands_stand in
    let others = instructions_there n limit is b.1 rest code (at + 1 + length o.operands) (All-tail IsWritable i is w) b.3 (stands_behind code (at + 1) o.operands behind_all operands_stand) (omega arith) in
    rw (opcode, not_end, first, others) refl

-- an instruction has at least one byte
few_instructions : (n : Numbering) (is : List Instruction) (bytes : List ℕ) → instructions_bytes n is ≡ Some bytes → length is ≤ length bytes
unfolding instructions_bytes
few_instructions n [] bytes e = omega arith
few_instructions n (i ∷ is) bytes e =
    let b = both_is (instruction_bytes n i) (instructions_bytes n is) bytes e in
    let o = has_opcode n i b.0 b.2 in
    let others = few_instructions n is b.1 b.3 in
    omega (arith, others, length-append b.0 b.1, ap length b.4, ap length o.are)

-- ---- the head

-- these numbers stand one after the other
abbrev WordsAt : List ℕ → ℕ → List ℕ → Type 0
WordsAt code at [] = Unit {0}
WordsAt code at (n ∷ ns) = (word_at code at ≡ Ok n) × WordsAt code (at + 4) ns

word_there : (m : ℕ) (bytes rest code : List ℕ) (at : ℕ) → option_map (λ n. big_bytes 4 n) (word m) ≡ Some bytes → Stands code at (bytes ++ rest) → (word_at code at ≡ Ok m) × Stands code (at + 4) rest
unfolding word_at
word_there m bytes rest code at e s =
    let b = mapped (λ n. big_bytes 4 n) (word m) bytes e in
    let w = word_is m b.0 b.1 in
    let is : big_bytes 4 m ≡ bytes = ap (λ (k : ℕ). big_bytes 4 k) w.0 ∙ b.2 in
    let here : Stands code at (big_bytes 4 m ++ rest) = subst (λ (t : List ℕ). Stands code at (t ++ rest)) (sym is) s in
    let long : ltb (length code) (at + 4) ≡ false = le-ltb _ _ (omega (arith, here.rest, length-append (big_bytes 4 m) rest)) in
    let value : big_number 4 (drop at code) ≡ m = ap (big_number 4) here.there ∙ big_number-reads_back 4 m rest (omega (arith, w.0, w.1)) in
    (rw (long, value) refl, stands_behind code at (big_bytes 4 m) rest here)

words_there : (ns : List ℕ) (bytes rest code : List ℕ) (at : ℕ) → words_bytes ns ≡ Some bytes → Stands code at (bytes ++ rest) → WordsAt code at ns × Stands code (at + length bytes) rest
unfolding words_bytes
words_there [] bytes rest code at e s = (tt, stands_behind code at bytes rest s)
words_there (m ∷ ns) bytes rest code at e s =
    let b = both_is (option_map (λ n. big_bytes 4 n) (word m)) (words_bytes ns) bytes e in
    let here : Stands code at (b.0 ++ (b.1 ++ rest)) = subst (Stands code at) (ap (λ (t : List ℕ). t ++ rest) (sym b.4) ∙ append_assoc b.0 b.1 rest) s in
    let first = word_there m b.0 (b.1 ++ rest) code at b.2 here in
    let others = words_there ns b.1 rest code (at + 4) b.3 first.1 in
    ((first.0, others.0), stands_behind code at bytes rest s)

words_long : (ns : List ℕ) (bytes : List ℕ) → words_bytes ns ≡ Some bytes → length bytes ≡ 4 * length ns
unfolding words_bytes
words_long [] bytes e = let none : [] ≡ bytes = cc in ap length (sym none)
words_long (m ∷ ns) bytes e =
    let b = both_is (option_map (λ n. big_bytes 4 n) (word m)) (words_bytes ns) bytes e in
    let c = mapped (λ n. big_bytes 4 n) (word m) b.0 b.2 in
    omega (arith, words_long ns b.1 b.3, length-append b.0 b.1, ap length b.4, ap length c.2)

-- ---- the chunk

pub code_again : (n : Numbering) (p : CodeParts) (bytes : List ℕ) → All IsWritable p.instructions → code_bytes n p ≡ Some bytes
    → code_of n.atoms n.imports n.literals bytes ≡ Ok (record p { instructions = map without_line_number p.instructions })
unfolding code_bytes code_of expected_at
code_again n p bytes writable e =
    let ns = 16 ∷ 0 ∷ greatest_opcode p.instructions ∷ p.label_count ∷ p.function_count ∷ [] in
    let h = both_is (words_bytes ns) (both (instructions_bytes n p.instructions) (Some (3 ∷ []))) bytes e in
    let c = both_is (instructions_bytes n p.instructions) (Some (3 ∷ [])) h.1 h.3 in
    let last : 3 ∷ [] ≡ c.1 = cc (c.3) in
    let whole : Stands bytes 0 (h.0 ++ h.1) = record { there = sym h.4; rest = omega (arith, ap length h.4) } in
    let words = words_there ns h.0 h.1 bytes 0 h.2 whole in
    let behind_head : 0 + length h.0 ≡ 20 = omega (arith, words_long ns h.0 h.2) in
    let stand : Stands bytes 20 (c.0 ++ (3 ∷ [])) = subst (λ (t : List ℕ). Stands bytes 20 (c.0 ++ t)) (sym last) (subst (Stands bytes 20) (sym c.4) (subst (λ (at : ℕ). Stands bytes at h.1) behind_head words.1)) in
    let few : length p.instructions < length bytes = omega (arith, few_instructions n p.instructions c.0 c.2, stand.rest, length-append c.0 (3 ∷ [])) in
    let read = instructions_there n (length bytes) p.instructions c.0 [] bytes 20 writable c.2 stand few in
    let w = words.0 in
    rw (w.0, w.1.0, w.1.1.0, w.1.1.1.0, w.1.1.1.1.0, read) refl
