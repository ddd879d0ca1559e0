-- Each integer that is read is in the range of terms.
use Rattle.std.proofs.Common.{◌≡◌, ℕ, zero, suc, ◌^◌, ◌<◌, ℤ, pos, negsuc, true, cond, eqb, List, [], ◌∷◌, Result, Ok, Err, refl, subst, arith, inl, inr, ltb-true, IfOk}
use Rattle.std.proofs.lemmas.Int.{ints}
use Rattle.std.proofs.lemmas.List.Elements.{All-from_recursion}
use Rattle.std.specs.List.{AllByRecursion}
use Rattle.beam_lemmas.proofs.Tests.{chosen}
use Rattle.beam_lemmas.proofs.Steps.{bind_ok}
use Rattle.beam_model.specs.declared.compact.CompactTag.{CompactTag}
use Rattle.beam_model.specs.declared.compact.Compact.{Compact}
use Rattle.beam_model.specs.declared.compact.Compact.TheVariants.{Number, Integer, X, Y, Label, Literal}
use Rattle.beam_model.specs.declared.compact.CompactOperand.{CompactOperand}
use Rattle.beam_model.specs.Prelude.{OperandFault, unsupported_operand, compact_tag, value_at, is_small, natural_at, compact_integer_at, number_at, atom_or_nil, register_of_tag, register_at, extended_of, single_of_tag, single_at, members_at, compact_list_at, as_operand, is_one, operand_of_tag, operand_at, HasSmall, HasSmallIntegers}
use Rattle.beam_term.specs.Prelude.{IsSmall}
use Rattle.beam_model.specs.declared.compact.CompactTag.TheVariants as tag
use Rattle.beam_model.specs.declared.compact.CompactOperand.TheVariants as operand
use Rattle.beam_model.specs.Compact.{integer_too_large, ◌>>=◌}
use Rattle.beam_operand.specs.declared.error.OperandError.{OperandError}
use Rattle.beam_operand.specs.Faults.{Gives}
use Rattle.beam_operand.proofs.Prefix.{ok_is}

abbrev Small : Compact × List ℕ → Type 0
Small q = HasSmall q.0

pub is_small_is : (z : ℤ) → is_small z ≡ true → IsSmall z
is_small_is (pos n) e = let lt : n < 2 ^ 59 = ltb-true _ _ e in (omega (arith, ints), omega (arith, ints))
is_small_is (negsuc n) e = let lt : n < 2 ^ 59 = ltb-true _ _ e in (omega (arith, ints), omega (arith, ints))

small_as : (f : ℕ → Compact) (first : ℕ) (bytes : List ℕ) (q : Compact × List ℕ) → ((n : ℕ) → HasSmall (f n))
    → (natural_at first bytes >>= λ n. Ok (f n.0, n.1)) ≡ Ok q → Small q
small_as f first bytes q small e =
    let b = bind_ok (natural_at first bytes) (λ n. Ok (f n.0, n.1)) q e in
    subst Small (ok_is {F = OperandFault} (f b.0.0, b.0.1) q b.2) (small b.0.0)

atom_small : (n : ℕ) → HasSmall (atom_or_nil n)
atom_small zero = tt
atom_small (suc n) = tt

integer_small : (first : ℕ) (bytes : List ℕ) (q : ℤ × List ℕ) → compact_integer_at first bytes ≡ Ok q → IsSmall q.0
unfolding compact_integer_at
integer_small first bytes q e =
    let b = bind_ok (value_at first bytes) (λ v. cond (is_small v.0) (Ok v) (Err integer_too_large)) q e in
    elim (chosen (is_small b.0.0) (Ok b.0) (Err integer_too_large) (Ok q) b.2) [
      | inl h ↦ subst (λ (r : ℤ × List ℕ). IsSmall r.0) (ok_is {F = OperandFault} b.0 q h.1) (is_small_is b.0.0 h.0)
      | inr h ↦ let bad : Err integer_too_large ≡ Ok q = h.1 in absurd cc
    ]

register_small : (kind : CompactTag) (first : ℕ) (bytes : List ℕ) (q : Compact × List ℕ) → register_of_tag kind first bytes ≡ Ok q → Small q
unfolding register_of_tag
register_small tag.X first bytes q e = small_as X first bytes q (λ n. tt) e
register_small tag.Y first bytes q e = small_as Y first bytes q (λ n. tt) e
register_small tag.Number first bytes q e = absurd cc
register_small tag.Integer first bytes q e = absurd cc
register_small tag.Atom first bytes q e = absurd cc
register_small tag.Label first bytes q e = absurd cc
register_small tag.Character first bytes q e = absurd cc
register_small tag.Extended first bytes q e = absurd cc

register_at_small : (bytes : List ℕ) (q : Compact × List ℕ) → register_at bytes ≡ Ok q → Small q
register_at_small [] q e = absurd cc
register_at_small (first ∷ bytes) q e = register_small (compact_tag first) first bytes q e

literal_small : (bytes : List ℕ) (q : Compact × List ℕ) → (number_at bytes >>= λ index. Ok (Literal index.0, index.1)) ≡ Ok q → Small q
literal_small bytes q e =
    let b = bind_ok (number_at bytes) (λ index. Ok (Literal index.0, index.1)) q e in
    subst Small (ok_is {F = OperandFault} (Literal b.0.0, b.0.1) q b.2) tt

typed_small : (bytes : List ℕ) (q : Compact × List ℕ) → (register_at bytes >>= λ register. number_at register.1 >>= λ type_index. Ok (register.0, type_index.1)) ≡ Ok q → Small q
typed_small bytes q e =
    let a = bind_ok (register_at bytes) (λ register. number_at register.1 >>= λ type_index. Ok (register.0, type_index.1)) q e in
    let b = bind_ok (number_at a.0.1) (λ type_index. Ok (a.0.0, type_index.1)) q a.2 in
    subst Small (ok_is {F = OperandFault} (a.0.0, b.0.1) q b.2) (register_at_small bytes a.0 a.1)

extended_small : (z : ℤ) (bytes : List ℕ) (q : Compact × List ℕ) → extended_of z bytes ≡ Ok q → Small q
unfolding extended_of
extended_small (pos n) bytes q e =
    elim (chosen (eqb n 4) _ _ (Ok q) e) [
      | inl h ↦ literal_small bytes q h.1
      | inr h ↦ elim (chosen (eqb n 5) _ _ (Ok q) h.1) [
        | inl g ↦ typed_small bytes q g.1
        | inr g ↦ let bad : Err unsupported_operand ≡ Ok q = g.1 in absurd cc
      ]
    ]
extended_small (negsuc n) bytes q e = absurd cc

single_small : (kind : CompactTag) (first : ℕ) (bytes : List ℕ) (q : Compact × List ℕ) → single_of_tag kind first bytes ≡ Ok q → Small q
unfolding single_of_tag
single_small tag.Number first bytes q e = small_as Number first bytes q (λ n. tt) e
single_small tag.Integer first bytes q e =
    let b = bind_ok (compact_integer_at first bytes) (λ z. Ok (Integer z.0, z.1)) q e in
    subst Small (ok_is {F = OperandFault} (Integer b.0.0, b.0.1) q b.2) (integer_small first bytes b.0 b.1)
single_small tag.Atom first bytes q e = small_as atom_or_nil first bytes q atom_small e
single_small tag.X first bytes q e = register_small tag.X first bytes q e
single_small tag.Y first bytes q e = register_small tag.Y first bytes q e
single_small tag.Label first bytes q e = small_as Label first bytes q (λ n. tt) e
single_small tag.Character first bytes q e = absurd cc
single_small tag.Extended first bytes q e =
    let b = bind_ok (value_at first bytes) (λ v. extended_of v.0 v.1) q e in
    extended_small b.0.0 b.0.1 q b.2

single_at_small : (bytes : List ℕ) (q : Compact × List ℕ) → single_at bytes ≡ Ok q → Small q
single_at_small [] q e = absurd cc
single_at_small (first ∷ bytes) q e = single_small (compact_tag first) first bytes q e

members_small : (n : ℕ) (bytes : List ℕ) (q : List Compact × List ℕ) → members_at n bytes ≡ Ok q → AllByRecursion HasSmall q.0
unfolding members_at
members_small zero bytes q e = subst (λ (r : List Compact × List ℕ). AllByRecursion HasSmall r.0) (ok_is {F = OperandFault} ([], bytes) q e) tt
members_small (suc n) bytes q e =
    let a = bind_ok (single_at bytes) (λ member. members_at n member.1 >>= λ others. Ok (member.0 ∷ others.0, others.1)) q e in
    let b = bind_ok (members_at n a.0.1) (λ others. Ok (a.0.0 ∷ others.0, others.1)) q a.2 in
    subst (λ (r : List Compact × List ℕ). AllByRecursion HasSmall r.0) (ok_is {F = OperandFault} (a.0.0 ∷ b.0.0, b.0.1) q b.2)
    (single_at_small bytes a.0 a.1, members_small n a.0.1 b.0 b.1)

abbrev SmallIntegers : CompactOperand × List ℕ → Type 0
SmallIntegers q = HasSmallIntegers q.0

list_small : (bytes : List ℕ) (q : CompactOperand × List ℕ) → compact_list_at bytes ≡ Ok q → SmallIntegers q
unfolding compact_list_at
list_small bytes q e =
    let a = bind_ok (number_at bytes) (λ count. members_at count.0 count.1 >>= λ members. Ok (operand.List members.0, members.1)) q e in
    let b = bind_ok (members_at a.0.0 a.0.1) (λ members. Ok (operand.List members.0, members.1)) q a.2 in
    subst SmallIntegers (ok_is {F = OperandFault} (operand.List b.0.0, b.0.1) q b.2) (All-from_recursion HasSmall b.0.0 (members_small a.0.0 a.0.1 b.0 b.1))

one_small : (r : Result (Compact × List ℕ) OperandFault) (q : CompactOperand × List ℕ) → ((p : Compact × List ℕ) → r ≡ Ok p → Small p) → as_operand r ≡ Ok q → SmallIntegers q
one_small (Ok p) q small e = subst SmallIntegers (ok_is {F = OperandFault} (operand.One p.0, p.1) q e) (small p refl)
one_small (Err f) q small e = absurd cc

operand_small : (kind : CompactTag) (first : ℕ) (bytes : List ℕ) (q : CompactOperand × List ℕ) → operand_of_tag kind first bytes ≡ Ok q → SmallIntegers q
unfolding operand_of_tag
operand_small tag.Number first bytes q e = one_small (single_of_tag tag.Number first bytes) q (single_small tag.Number first bytes) e
operand_small tag.Integer first bytes q e = one_small (single_of_tag tag.Integer first bytes) q (single_small tag.Integer first bytes) e
operand_small tag.Atom first bytes q e = one_small (single_of_tag tag.Atom first bytes) q (single_small tag.Atom first bytes) e
operand_small tag.X first bytes q e = one_small (single_of_tag tag.X first bytes) q (single_small tag.X first bytes) e
operand_small tag.Y first bytes q e = one_small (single_of_tag tag.Y first bytes) q (single_small tag.Y first bytes) e
operand_small tag.Label first bytes q e = one_small (single_of_tag tag.Label first bytes) q (single_small tag.Label first bytes) e
operand_small tag.Character first bytes q e = one_small (single_of_tag tag.Character first bytes) q (single_small tag.Character first bytes) e
operand_small tag.Extended first bytes q e =
    let b = bind_ok (value_at first bytes) (λ v. cond (is_one v.0) (compact_list_at v.1) (as_operand (extended_of v.0 v.1))) q e in
    elim (chosen (is_one b.0.0) (compact_list_at b.0.1) (as_operand (extended_of b.0.0 b.0.1)) (Ok q) b.2) [
      | inl h ↦ list_small b.0.1 q h.1
      | inr h ↦ one_small (extended_of b.0.0 b.0.1) q (extended_small b.0.0 b.0.1) h.1
    ]

pub all_small : (bytes : List ℕ) (v : CompactOperand) (rest : List ℕ) → operand_at bytes ≡ Ok (v, rest) → HasSmallIntegers v
all_small [] v rest e = absurd cc
all_small (first ∷ bytes) v rest e = operand_small (compact_tag first) first bytes (v, rest) e

-- the result of a function that reads has small integers
pub given_small : {X : Type 0} (r : Result (Compact × X) OperandError) (view : X → List ℕ) (kind : CompactTag) (first : ℕ) (bytes : List ℕ) → Gives (λ q. (q.0, view q.1)) r (single_of_tag kind first bytes) → IfOk r (λ q. HasSmall q.0)
given_small (Ok q) view kind first bytes e = single_small kind first bytes (q.0, view q.1) e
given_small (Err f) view kind first bytes e = tt
