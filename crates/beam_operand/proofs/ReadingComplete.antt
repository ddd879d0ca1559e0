-- A spelled operand is read, whatever bytes follow.
use Rattle.std.proofs.Common.{◌≡◌, ◌≢◌, ◌⊎◌, inl, inr, ℕ, zero, suc, ◌+◌, ◌/◌, ◌%◌, ◌^◌, ◌<◌, ℤ, pos, negsuc, true, false, cond, ltb, eqb, List, [], ◌∷◌, ◌++◌, length, drop, Result, Ok, Err, refl, sym, ap, ◌∙◌, append_assoc, arith, lt-ltb, le-ltb, ne_eqb, drop_at, length-append}
use Rattle.std.proofs.lemmas.Int.{ints}
use Rattle.byteorder.specs.Endian.{big_number, twos_complement}
use Rattle.byteorder.specs.Numbers.{big_from-append}
use Rattle.beam_model.specs.declared.compact.CompactTag.{CompactTag}
use Rattle.beam_model.specs.declared.compact.Compact.{Compact}
use Rattle.beam_model.specs.declared.compact.Compact.TheVariants.{Number, Integer, Atom, X, Y, Label, Literal, Nil}
use Rattle.beam_model.specs.declared.compact.CompactOperand.{CompactOperand}
use Rattle.beam_model.specs.Prelude.{OperandFault, compact_tag, tag_number, value_at, is_small, number_at, atom_or_nil, register_of_tag, register_at, extended_of, single_of_tag, single_at, members_at, compact_list_at, as_operand, is_one, operand_of_tag, operand_at, IsFourBits, IsElevenBits, IsWide, IsValue, IsField, IsTaggedNumber, IsRegister, IsLiteralOperand, IsTyped, IsSingle, AreMembers, IsListed, IsSpelling}
use Rattle.beam_term.specs.Prelude.{IsSmall}
use Rattle.beam_model.specs.declared.compact.CompactTag.TheVariants as tag
use Rattle.beam_model.specs.declared.compact.CompactOperand.TheVariants as operand
use Rattle.beam_model.specs.Compact.{◌>>=◌}
use Rattle.beam_operand.proofs.RoundTrip.{tag_is, natural_again, number_read, label_read, atom_read, x_read, y_read, integer_read, atom_not_nil, from_single}

four_spelled : (first : ℕ) (z : ℤ) (rest more : List ℕ) → IsFourBits first rest z → value_at first (rest ++ more) ≡ Ok (z, more)
unfolding value_at
four_spelled first z rest more f =
    let bits : first / 8 % 2 ≡ 0 = f.bits in
    let small : ltb (first % 16) 8 ≡ true = lt-ltb _ _ (omega arith) in
    rw (f.alone, f.value, small) refl

eleven_spelled : (first : ℕ) (z : ℤ) (rest more : List ℕ) → IsElevenBits first rest z → value_at first (rest ++ more) ≡ Ok (z, more)
unfolding value_at
eleven_spelled first z rest more f =
    let bits : first / 8 % 4 ≡ 1 = f.bits in
    let large : ltb (first % 16) 8 ≡ false = le-ltb _ _ (omega arith) in
    let second : ltb (first % 32) 16 ≡ true = lt-ltb _ _ (omega arith) in
    rw (f.next, f.value, large, second) refl

wide_spelled : (first : ℕ) (z : ℤ) (rest more : List ℕ) → IsWide first rest z → value_at first (rest ++ more) ≡ Ok (z, more)
unfolding value_at
wide_spelled first z rest more f =
    let bits : first / 8 % 4 ≡ 3 = f.bits in
    let count : length rest ≡ first / 32 + 2 = f.count in
    let large : ltb (first % 16) 8 ≡ false = le-ltb _ _ (omega arith) in
    let third : ltb (first % 32) 16 ≡ false = le-ltb _ _ (omega arith) in
    let some : eqb (first / 32) 7 ≡ false = ne_eqb _ _ f.short in
    let enough : ltb (length (rest ++ more)) (first / 32 + 2) ≡ false = le-ltb _ _ (omega (arith, length-append rest more)) in
    let number : big_number (first / 32 + 2) (rest ++ more) ≡ big_number (first / 32 + 2) rest = big_from-append (first / 32 + 2) rest more (omega arith) in
    let after : drop (first / 32 + 2) (rest ++ more) ≡ more = drop_at rest more (first / 32 + 2) count in
    let value : twos_complement (first / 32 + 2) (big_number (first / 32 + 2) rest) ≡ z = ap (λ (n : ℕ). twos_complement n (big_number n rest)) (sym count) ∙ sym f.value in
    rw (large, third, some, enough, number, after, value) refl

value_spelled : (first : ℕ) (z : ℤ) (rest more : List ℕ) → IsValue first z rest → value_at first (rest ++ more) ≡ Ok (z, more)
value_spelled first z rest more (inl f) = four_spelled first z rest more f
value_spelled first z rest more (inr (inl f)) = eleven_spelled first z rest more f
value_spelled first z rest more (inr (inr f)) = wide_spelled first z rest more f

number_spelled : (n : ℕ) (text more : List ℕ) → IsTaggedNumber 0 n text → number_at (text ++ more) ≡ Ok (n, more)
unfolding number_at
number_spelled n [] more h = absurd h.0
number_spelled n (first ∷ rest) more h =
    let untagged : eqb (first % 8) 0 ≡ true = rw h.0.0 refl in
    rw untagged (natural_again first n (rest ++ more) more h.1 (value_spelled first (pos n) rest more h.0.1))

register_spelled : (x : Compact) (text more : List ℕ) → IsRegister x text → register_at (text ++ more) ≡ Ok (x, more)
unfolding register_of_tag
register_spelled (X n) [] more h = absurd h.0
register_spelled (X n) (first ∷ rest) more h =
    ap (λ (t : CompactTag). register_of_tag t first (rest ++ more)) (tag_is tag.X first h.0.0)
    ∙ rw (natural_again first n (rest ++ more) more h.1 (value_spelled first (pos n) rest more h.0.1)) refl
register_spelled (Y n) [] more h = absurd h.0
register_spelled (Y n) (first ∷ rest) more h =
    ap (λ (t : CompactTag). register_of_tag t first (rest ++ more)) (tag_is tag.Y first h.0.0)
    ∙ rw (natural_again first n (rest ++ more) more h.1 (value_spelled first (pos n) rest more h.0.1)) refl
register_spelled (Number n) text more h = absurd h
register_spelled (Integer z) text more h = absurd h
register_spelled Nil text more h = absurd h
register_spelled (Atom n) text more h = absurd h
register_spelled (Label n) text more h = absurd h
register_spelled (Literal n) text more h = absurd h

-- an operand that the value of a field gives
from_value : (kind : CompactTag) (z : ℤ) (x : Compact) (text more : List ℕ) → IsField (tag_number kind) z text
    → ((first : ℕ) (bytes rest : List ℕ) → value_at first bytes ≡ Ok (z, rest) → single_of_tag kind first bytes ≡ Ok (x, rest))
    → single_at (text ++ more) ≡ Ok (x, more)
from_value kind z x [] more h read = absurd h
from_value kind z x (first ∷ rest) more h read =
    ap (λ (t : CompactTag). single_of_tag t first (rest ++ more)) (tag_is kind first h.0) ∙ read first (rest ++ more) more (value_spelled first z rest more h.1)

is_in_range : (z : ℤ) → IsSmall z → is_small z ≡ true
is_in_range (pos n) h = lt-ltb _ _ (omega (arith, ints, h.1))
is_in_range (negsuc n) h = lt-ltb _ _ (omega (arith, ints, h.0))

-- an operand that begins with a field under z is read by the rest after it
after_mark : (z : ℤ) (mark text more : List ℕ) (x : Compact) → IsField 7 z mark → extended_of z (text ++ more) ≡ Ok (x, more) → single_at ((mark ++ text) ++ more) ≡ Ok (x, more)
unfolding single_of_tag
after_mark z [] text more x m e = absurd m
after_mark z (first ∷ rest) text more x m e =
    ap (λ (t : CompactTag). single_of_tag t first ((rest ++ text) ++ more)) (tag_is tag.Extended first m.0)
    ∙ ap (single_of_tag tag.Extended first) (append_assoc rest text more)
    ∙ ap (λ (r : Result (ℤ × List ℕ) OperandFault). r >>= λ v. extended_of v.0 v.1) (value_spelled first z rest (text ++ more) m.1)
    ∙ e

literal_spelled : (n : ℕ) (text more : List ℕ) → IsLiteralOperand n text → single_at (text ++ more) ≡ Ok (Literal n, more)
unfolding extended_of
literal_spelled n text more l =
    let read : number_at (l.index ++ more) ≡ Ok (n, more) = number_spelled n l.index more l.is_index in
    ap (λ (t : List ℕ). single_at (t ++ more)) l.parts ∙ after_mark (pos 4) l.mark l.index more (Literal n) l.is_mark (rw read refl)

typed_spelled : (x : Compact) (text more : List ℕ) → IsTyped x text → single_at (text ++ more) ≡ Ok (x, more)
unfolding extended_of
typed_spelled x text more t =
    let parts : (t.register ++ t.type_index) ++ more ≡ t.register ++ (t.type_index ++ more) = append_assoc t.register t.type_index more in
    let register : register_at (t.register ++ (t.type_index ++ more)) ≡ Ok (x, t.type_index ++ more) = register_spelled x t.register (t.type_index ++ more) t.is_register in
    let index : number_at (t.type_index ++ more) ≡ Ok (t.n, more) = number_spelled t.n t.type_index more t.is_index in
    ap (λ (u : List ℕ). single_at (u ++ more)) t.parts ∙ after_mark (pos 5) t.mark (t.register ++ t.type_index) more x t.is_mark (rw (parts, register, index) refl)

pub single_spelled : (x : Compact) (text more : List ℕ) → IsSingle x text → single_at (text ++ more) ≡ Ok (x, more)
single_spelled (Number n) text more h = from_value tag.Number (pos n) (Number n) text more h.0 (number_read n h.1)
single_spelled (Integer z) text more h = from_value tag.Integer z (Integer z) text more h.0 (integer_read z (is_in_range z h.1))
single_spelled Nil text more h = from_value tag.Atom (pos 0) Nil text more h.0 (atom_read 0 h.1)
single_spelled (Atom n) text more h =
    from_value tag.Atom (pos n) (Atom n) text more h.0.0
    (λ first bytes rest v. atom_read n h.0.1 first bytes rest v ∙ ap (λ (x : Compact). Ok (x, rest)) (atom_not_nil n (ne_eqb n 0 h.1)))
single_spelled (X n) text more (inl h) = from_value tag.X (pos n) (X n) text more h.0 (x_read n h.1)
single_spelled (X n) text more (inr h) = typed_spelled (X n) text more h
single_spelled (Y n) text more (inl h) = from_value tag.Y (pos n) (Y n) text more h.0 (y_read n h.1)
single_spelled (Y n) text more (inr h) = typed_spelled (Y n) text more h
single_spelled (Label n) text more h = from_value tag.Label (pos n) (Label n) text more h.0 (label_read n h.1)
single_spelled (Literal n) text more h = literal_spelled n text more h

members_spelled : (xs : List Compact) (text more : List ℕ) → AreMembers xs text → members_at (length xs) (text ++ more) ≡ Ok (xs, more)
unfolding members_at
members_spelled [] text more h = ap (λ (t : List ℕ). Ok ([], t ++ more)) h
members_spelled (x ∷ xs) text more h =
    let parts : text ++ more ≡ h.0 ++ (h.1 ++ more) = ap (λ (t : List ℕ). t ++ more) h.2 ∙ append_assoc h.0 h.1 more in
    ap (members_at (suc (length xs))) parts
    ∙ ap (λ (r : Result (Compact × List ℕ) OperandFault). r >>= λ member. members_at (length xs) member.1 >>= λ others. Ok (member.0 ∷ others.0, others.1)) (single_spelled x h.0 (h.1 ++ more) h.3)
    ∙ ap (λ (r : Result (List Compact × List ℕ) OperandFault). r >>= λ others. Ok (x ∷ others.0, others.1)) (members_spelled xs h.1 more h.4)

single_operand : (x : Compact) (bytes rest : List ℕ) → single_at bytes ≡ Ok (x, rest) → operand_at bytes ≡ Ok (operand.One x, rest)
single_operand x [] rest e = absurd cc
single_operand x (first ∷ bytes) rest e = from_single (compact_tag first) first bytes x rest e

list_after_mark : (xs : List Compact) (mark text more : List ℕ) → IsField 7 (pos 1) mark → compact_list_at (text ++ more) ≡ Ok (operand.List xs, more) → operand_at ((mark ++ text) ++ more) ≡ Ok (operand.List xs, more)
unfolding operand_of_tag
list_after_mark xs [] text more m e = absurd m
list_after_mark xs (first ∷ rest) text more m e =
    ap (λ (t : CompactTag). operand_of_tag t first ((rest ++ text) ++ more)) (tag_is tag.Extended first m.0)
    ∙ ap (operand_of_tag tag.Extended first) (append_assoc rest text more)
    ∙ ap (λ (r : Result (ℤ × List ℕ) OperandFault). r >>= λ v. cond (is_one v.0) (compact_list_at v.1) (as_operand (extended_of v.0 v.1))) (value_spelled first (pos 1) rest (text ++ more) m.1)
    ∙ e

list_spelled : (xs : List Compact) (text more : List ℕ) → IsListed xs text → operand_at (text ++ more) ≡ Ok (operand.List xs, more)
unfolding compact_list_at
list_spelled xs text more l =
    let parts : (l.count ++ l.members) ++ more ≡ l.count ++ (l.members ++ more) = append_assoc l.count l.members more in
    let count : number_at (l.count ++ (l.members ++ more)) ≡ Ok (length xs, l.members ++ more) = number_spelled (length xs) l.count (l.members ++ more) l.is_count in
    let members : members_at (length xs) (l.members ++ more) ≡ Ok (xs, more) = members_spelled xs l.members more l.are_members in
    ap (λ (t : List ℕ). operand_at (t ++ more)) l.parts ∙ list_after_mark xs l.mark (l.count ++ l.members) more l.is_mark (rw (parts, count, members) refl)

pub operand_spelled : (v : CompactOperand) (text more : List ℕ) → IsSpelling v text → operand_at (text ++ more) ≡ Ok (v, more)
operand_spelled (operand.One x) text more h = single_operand x (text ++ more) more (single_spelled x text more h)
operand_spelled (operand.List xs) text more h = list_spelled xs text more h
