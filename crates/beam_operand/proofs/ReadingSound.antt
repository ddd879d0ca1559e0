-- The bytes spell the operand that is read from them.
use Rattle.std.proofs.Common.{◌≡◌, ◌≢◌, ◌⊎◌, inl, inr, ℕ, zero, suc, ◌+◌, ◌*◌, ◌/◌, ◌%◌, ◌^◌, ◌<◌, ◌≤◌, ℤ, pos, negsuc, Bool, true, false, cond, ltb, eqb, List, [], ◌∷◌, ◌++◌, length, take, drop, Result, Ok, Err, refl, sym, ap, subst, ◌∙◌, append_assoc, arith, ltb-true, ltb-false, eqb-true, append-nil, take-append-drop, length-take}
use Rattle.std.proofs.lemmas.Bool.{eqb-false}
use Rattle.beam_lemmas.proofs.Tests.{chosen}
use Rattle.beam_lemmas.proofs.Steps.{bind_ok}
use Rattle.byteorder.specs.Endian.{big_number, twos_complement}
use Rattle.byteorder.specs.Numbers.{big_from-take}
use Rattle.beam_model.specs.declared.compact.CompactTag.{CompactTag}
use Rattle.beam_model.specs.declared.compact.Compact.{Compact}
use Rattle.beam_model.specs.declared.compact.Compact.TheVariants.{Number, Integer, Atom, X, Y, Label, Literal, Nil}
use Rattle.beam_model.specs.declared.compact.CompactOperand.{CompactOperand}
use Rattle.beam_model.specs.Prelude.{OperandFault, unsupported_operand, compact_tag, tag_number, eleven_bits_at, wide_at, value_at, natural, is_small, natural_at, compact_integer_at, number_at, atom_or_nil, register_of_tag, register_at, extended_of, single_of_tag, single_at, members_at, compact_list_at, as_operand, is_one, operand_of_tag, operand_at, IsFourBits, IsElevenBits, IsWide, IsValue, IsField, IsTaggedNumber, IsRegister, IsLiteralOperand, IsTyped, IsSingle, AreMembers, IsListed, IsSpelling}
use Rattle.beam_model.specs.declared.compact.CompactTag.TheVariants as tag
use Rattle.beam_model.specs.declared.compact.CompactOperand.TheVariants as operand
use Rattle.beam_model.specs.Compact.{truncated, integer_too_large, ◌>>=◌}
use Rattle.beam_operand.proofs.Prefix.{ok_is}
use Rattle.beam_operand.proofs.Reading.{guard_ok}
use Rattle.beam_operand.proofs.Small.{is_small_is}

-- something stands in front of the rest
pub record Stands (bytes rest : List ℕ) (Is : List ℕ → Type 0) : Type 0 where
  pub text : List ℕ
  pub parts : bytes ≡ text ++ rest
  pub is : Is text

-- ---- values

abbrev Value : Type 0
Value = ℤ × List ℕ

four_told : (first : ℕ) (bytes : List ℕ) (q : Value) → first % 16 < 8 → (pos (first / 16), bytes) ≡ q → Stands bytes q.1 (IsValue first q.0)
four_told first bytes q low e = record {
  text = [];
  parts = ap (λ (p : Value). p.1) e;
  is = inl (record { bits = omega arith; alone = refl; value = sym (ap (λ (p : Value). p.0) e) });
}

eleven_told : (first : ℕ) (bytes : List ℕ) (q : Value) → 8 ≤ first % 16 → first % 32 < 16 → eleven_bits_at first bytes ≡ Ok q → Stands bytes q.1 (IsValue first q.0)
eleven_told first [] q large second e = absurd cc
eleven_told first (low ∷ bytes) q large second e =
    let same : (pos (first / 32 * 256 + low), bytes) ≡ q = ok_is {F = OperandFault} (pos (first / 32 * 256 + low), bytes) q e in
    record {
      text = low ∷ [];
      parts = ap (λ (p : Value). low ∷ p.1) same;
      is = inr (inl (record { bits = omega arith; low = low; next = refl; value = sym (ap (λ (p : Value). p.0) same) }));
    }

-- n bytes of two's complement
record IsOf (n : ℕ) (z : ℤ) (text : List ℕ) : Type 0 where
  count : length text ≡ n
  value : z ≡ twos_complement n (big_number n text)

bytes_told : (n : ℕ) (bytes : List ℕ) (q : Value) → wide_at n bytes ≡ Ok q → Stands bytes q.1 (IsOf n q.0)
bytes_told n bytes q e =
    let g = guard_ok (ltb (length bytes) n) truncated (twos_complement n (big_number n bytes), drop n bytes) q e in
    let long : n ≤ length bytes = ltb-false _ _ g.0 in
    let number : big_number n (take n bytes) ≡ big_number n bytes = big_from-take 0 n n bytes (omega arith) in
    record {
      text = take n bytes;
      parts = sym (take-append-drop n bytes) ∙ ap (λ (p : Value). take n bytes ++ p.1) g.1;
      is = record {
        count = omega (arith, length-take n bytes);
        value = sym (ap (λ (p : Value). p.0) g.1) ∙ ap (twos_complement n) (sym number);
      };
    }

wide_told : (first : ℕ) (bytes : List ℕ) (q : Value) → 8 ≤ first % 16 → 16 ≤ first % 32 → first / 32 ≢ 7 → wide_at (first / 32 + 2) bytes ≡ Ok q → Stands bytes q.1 (IsValue first q.0)
wide_told first bytes q large third some e =
    let t = bytes_told (first / 32 + 2) bytes q e in
    record {
      text = t.text;
      parts = t.parts;
      is = inr (inr (record {
        bits = omega arith;
        short = some;
        count = t.is.count;
        value = t.is.value ∙ ap (λ (n : ℕ). twos_complement n (big_number n t.text)) (sym t.is.count);
      }));
    }

value_told : (first : ℕ) (bytes : List ℕ) (q : Value) → value_at first bytes ≡ Ok q → Stands bytes q.1 (IsValue first q.0)
unfolding value_at
value_told first bytes q e =
    elim (chosen (ltb (first % 16) 8) _ _ (Ok q) e) [
      | inl h ↦ four_told first bytes q (ltb-true _ _ h.0) (ok_is {F = OperandFault} (pos (first / 16), bytes) q h.1)
      | inr h ↦ elim (chosen (ltb (first % 32) 16) _ _ (Ok q) h.1) [
        | inl g ↦ eleven_told first bytes q (ltb-false _ _ h.0) (ltb-true _ _ g.0) g.1
        | inr g ↦ elim (chosen (eqb (first / 32) 7) _ _ (Ok q) g.1) [
          | inl f ↦ let bad : Err integer_too_large ≡ Ok q = f.1 in absurd cc
          | inr f ↦ wide_told first bytes q (ltb-false _ _ h.0) (ltb-false _ _ g.0) (eqb-false _ _ f.0) f.1
        ]
      ]
    ]

-- a value from 0 to 4,294,967,295, after its first byte
abbrev IsNatural : ℕ → ℕ → List ℕ → Type 0
IsNatural first n text = IsValue first (pos n) text × (n < 2 ^ 32)

natural_is : (z : ℤ) (bytes : List ℕ) (q : ℕ × List ℕ) → natural z bytes ≡ Ok q → (z ≡ pos q.0) × (bytes ≡ q.1) × (q.0 < 2 ^ 32)
natural_is (pos n) bytes q e =
    elim (chosen (ltb n (2 ^ 32)) (Ok (n, bytes)) (Err integer_too_large) (Ok q) e) [
      | inl h ↦ let same : (n, bytes) ≡ q = ok_is {F = OperandFault} (n, bytes) q h.1 in
          (ap (λ (p : ℕ × List ℕ). pos p.0) same, ap (λ (p : ℕ × List ℕ). p.1) same, subst (λ (p : ℕ × List ℕ). p.0 < 2 ^ 32) same (ltb-true _ _ h.0))
      | inr h ↦ let bad : Err integer_too_large ≡ Ok q = h.1 in absurd cc
    ]
natural_is (negsuc n) bytes q e = absurd cc

natural_told : (first : ℕ) (bytes : List ℕ) (q : ℕ × List ℕ) → natural_at first bytes ≡ Ok q → Stands bytes q.1 (IsNatural first q.0)
unfolding natural_at
natural_told first bytes q e =
    let b = bind_ok (value_at first bytes) (λ v. natural v.0 v.1) q e in
    let n = natural_is b.0.0 b.0.1 q b.2 in
    let t = value_told first bytes b.0 b.1 in
    record {
      text = t.text;
      parts = t.parts ∙ ap (λ (rest : List ℕ). t.text ++ rest) n.1;
      is = (subst (λ (z : ℤ). IsValue first z t.text) n.0 t.is, n.2);
    }

integer_told : (first : ℕ) (bytes : List ℕ) (q : Value) → compact_integer_at first bytes ≡ Ok q → Stands bytes q.1 (λ text. IsSingle (Integer q.0) (first ∷ text)) ⊎ (first % 8 ≢ 1)
unfolding compact_integer_at
integer_told first bytes q e =
    let b = bind_ok (value_at first bytes) (λ v. cond (is_small v.0) (Ok v) (Err integer_too_large)) q e in
    elim (chosen (is_small b.0.0) (Ok b.0) (Err integer_too_large) (Ok q) b.2) [
      | inl h ↦ go (eqb (first % 8) 1) refl (subst (λ (p : Value). Stands bytes p.1 (IsValue first p.0)) (ok_is {F = OperandFault} b.0 q h.1) (value_told first bytes b.0 b.1)) (subst (λ (p : Value). is_small p.0 ≡ true) (ok_is {F = OperandFault} b.0 q h.1) h.0)
      | inr h ↦ let bad : Err integer_too_large ≡ Ok q = h.1 in absurd cc
    ]
  where
    go : (t : Bool) → eqb (first % 8) 1 ≡ t → Stands bytes q.1 (IsValue first q.0) → is_small q.0 ≡ true → Stands bytes q.1 (λ text. IsSingle (Integer q.0) (first ∷ text)) ⊎ (first % 8 ≢ 1)
    go true r t small = inl (record { text = t.text; parts = t.parts; is = ((eqb-true _ _ r, t.is), is_small_is q.0 small) })
    go false r t small = inr (eqb-false _ _ r)

number_told : (bytes : List ℕ) (q : ℕ × List ℕ) → number_at bytes ≡ Ok q → Stands bytes q.1 (IsTaggedNumber 0 q.0)
unfolding number_at
number_told [] q e = absurd cc
number_told (first ∷ bytes) q e =
    elim (chosen (eqb (first % 8) 0) (natural_at first bytes) (Err unsupported_operand) (Ok q) e) [
      | inl h ↦ let t = natural_told first bytes q h.1 in
          record { text = first ∷ t.text; parts = ap (λ (bs : List ℕ). first ∷ bs) t.parts; is = ((eqb-true _ _ h.0, t.is.0), t.is.1) }
      | inr h ↦ let bad : Err unsupported_operand ≡ Ok q = h.1 in absurd cc
    ]

-- ---- tags

abbrev tag_from : ℕ → CompactTag
tag_from m =
    cond (eqb m 0) tag.Number (cond (eqb m 1) tag.Integer (cond (eqb m 2) tag.Atom (cond (eqb m 3) tag.X
    (cond (eqb m 4) tag.Y (cond (eqb m 5) tag.Label (cond (eqb m 6) tag.Character tag.Extended))))))

number_of_tag : (m : ℕ) → m < 8 → tag_number (tag_from m) ≡ m
number_of_tag zero h = refl
number_of_tag (suc zero) h = refl
number_of_tag (suc (suc zero)) h = refl
number_of_tag (suc (suc (suc zero))) h = refl
number_of_tag (suc (suc (suc (suc zero)))) h = refl
number_of_tag (suc (suc (suc (suc (suc zero))))) h = refl
number_of_tag (suc (suc (suc (suc (suc (suc zero)))))) h = refl
number_of_tag (suc (suc (suc (suc (suc (suc (suc zero))))))) h = refl
number_of_tag (suc (suc (suc (suc (suc (suc (suc (suc m)))))))) h = absurd (omega arith)

tagged : (first : ℕ) (kind : CompactTag) → compact_tag first ≡ kind → first % 8 ≡ tag_number kind
tagged first kind e = sym (number_of_tag (first % 8) (omega arith)) ∙ ap tag_number e

-- ---- operands that are no lists

-- a number under a tag, as an operand
named : (f : ℕ → Compact) (first : ℕ) (bytes : List ℕ) (q : Compact × List ℕ) (k : ℕ) → first % 8 ≡ k → ((n : ℕ) (text : List ℕ) → IsTaggedNumber k n text → IsSingle (f n) text)
    → (natural_at first bytes >>= λ n. Ok (f n.0, n.1)) ≡ Ok q → Stands (first ∷ bytes) q.1 (IsSingle q.0)
named f first bytes q k under is e =
    let b = bind_ok (natural_at first bytes) (λ n. Ok (f n.0, n.1)) q e in
    let t = natural_told first bytes b.0 b.1 in
    subst (λ (p : Compact × List ℕ). Stands (first ∷ bytes) p.1 (IsSingle p.0)) (ok_is {F = OperandFault} (f b.0.0, b.0.1) q b.2)
    (record { text = first ∷ t.text; parts = ap (λ (bs : List ℕ). first ∷ bs) t.parts; is = is b.0.0 (first ∷ t.text) ((under, t.is.0), t.is.1) })

atom_is : (n : ℕ) (text : List ℕ) → IsTaggedNumber 2 n text → IsSingle (atom_or_nil n) text
atom_is zero text h = h
atom_is (suc n) text h = (h, λ e. absurd cc)

register_as : (f : ℕ → Compact) (first : ℕ) (bytes : List ℕ) (q : Compact × List ℕ) (k : ℕ) → first % 8 ≡ k → ((n : ℕ) (text : List ℕ) → IsTaggedNumber k n text → IsRegister (f n) text)
    → (natural_at first bytes >>= λ n. Ok (f n.0, n.1)) ≡ Ok q → Stands (first ∷ bytes) q.1 (IsRegister q.0)
register_as f first bytes q k under is e =
    let b = bind_ok (natural_at first bytes) (λ n. Ok (f n.0, n.1)) q e in
    let t = natural_told first bytes b.0 b.1 in
    subst (λ (p : Compact × List ℕ). Stands (first ∷ bytes) p.1 (IsRegister p.0)) (ok_is {F = OperandFault} (f b.0.0, b.0.1) q b.2)
    (record { text = first ∷ t.text; parts = ap (λ (bs : List ℕ). first ∷ bs) t.parts; is = is b.0.0 (first ∷ t.text) ((under, t.is.0), t.is.1) })

register_of_told : (kind : CompactTag) (first : ℕ) (bytes : List ℕ) (q : Compact × List ℕ) → first % 8 ≡ tag_number kind → register_of_tag kind first bytes ≡ Ok q → Stands (first ∷ bytes) q.1 (IsRegister q.0)
unfolding register_of_tag
register_of_told tag.X first bytes q under e = register_as X first bytes q 3 under (λ n text h. h) e
register_of_told tag.Y first bytes q under e = register_as Y first bytes q 4 under (λ n text h. h) e
register_of_told tag.Number first bytes q under e = absurd cc
register_of_told tag.Integer first bytes q under e = absurd cc
register_of_told tag.Atom first bytes q under e = absurd cc
register_of_told tag.Label first bytes q under e = absurd cc
register_of_told tag.Character first bytes q under e = absurd cc
register_of_told tag.Extended first bytes q under e = absurd cc

register_told : (bytes : List ℕ) (q : Compact × List ℕ) → register_at bytes ≡ Ok q → Stands bytes q.1 (IsRegister q.0)
register_told [] q e = absurd cc
register_told (first ∷ bytes) q e = register_of_told (compact_tag first) first bytes q (tagged first (compact_tag first) refl) e

-- one text after another
joined : (mark bytes text middle rest : List ℕ) → bytes ≡ mark ++ middle → middle ≡ text ++ rest → bytes ≡ (mark ++ text) ++ rest
joined mark bytes text middle rest e f = e ∙ ap (λ (t : List ℕ). mark ++ t) f ∙ sym (append_assoc mark text rest)

literal_told : (mark bytes middle : List ℕ) (q : Compact × List ℕ) → bytes ≡ mark ++ middle → IsField 7 (pos 4) mark
    → (number_at middle >>= λ index. Ok (Literal index.0, index.1)) ≡ Ok q → Stands bytes q.1 (IsSingle q.0)
literal_told mark bytes middle q parts is_mark e =
    let b = bind_ok (number_at middle) (λ index. Ok (Literal index.0, index.1)) q e in
    let t = number_told middle b.0 b.1 in
    subst (λ (p : Compact × List ℕ). Stands bytes p.1 (IsSingle p.0)) (ok_is {F = OperandFault} (Literal b.0.0, b.0.1) q b.2)
    (record {
      text = mark ++ t.text;
      parts = joined mark bytes t.text middle b.0.1 parts t.parts;
      is = record { mark = mark; index = t.text; parts = refl; is_mark = is_mark; is_index = t.is };
    })

typed_is : (x : Compact) (text : List ℕ) → IsTyped x text → IsSingle x text
typed_is (X n) text t = inr t
typed_is (Y n) text t = inr t
typed_is (Number n) text t = absurd t.is_register
typed_is (Integer z) text t = absurd t.is_register
typed_is Nil text t = absurd t.is_register
typed_is (Atom n) text t = absurd t.is_register
typed_is (Label n) text t = absurd t.is_register
typed_is (Literal n) text t = absurd t.is_register

typed_told : (mark bytes middle : List ℕ) (q : Compact × List ℕ) → bytes ≡ mark ++ middle → IsField 7 (pos 5) mark
    → (register_at middle >>= λ register. number_at register.1 >>= λ type_index. Ok (register.0, type_index.1)) ≡ Ok q → Stands bytes q.1 (IsSingle q.0)
typed_told mark bytes middle q parts is_mark e =
    let a = bind_ok (register_at middle) (λ register. number_at register.1 >>= λ type_index. Ok (register.0, type_index.1)) q e in
    let b = bind_ok (number_at a.0.1) (λ type_index. Ok (a.0.0, type_index.1)) q a.2 in
    let r = register_told middle a.0 a.1 in
    let t = number_told a.0.1 b.0 b.1 in
    subst (λ (p : Compact × List ℕ). Stands bytes p.1 (IsSingle p.0)) (ok_is {F = OperandFault} (a.0.0, b.0.1) q b.2)
    (record {
      text = mark ++ (r.text ++ t.text);
      parts = joined mark bytes (r.text ++ t.text) middle b.0.1 parts (joined r.text middle t.text a.0.1 b.0.1 r.parts t.parts);
      is = typed_is a.0.0 (mark ++ (r.text ++ t.text)) (record {
        mark = mark;
        register = r.text;
        type_index = t.text;
        parts = refl;
        is_mark = is_mark;
        is_register = r.is;
        n = b.0.0;
        is_index = t.is;
      });
    })

extended_told : (z : ℤ) (mark bytes middle : List ℕ) (q : Compact × List ℕ) → bytes ≡ mark ++ middle → IsField 7 z mark → extended_of z middle ≡ Ok q → Stands bytes q.1 (IsSingle q.0)
unfolding extended_of
extended_told (pos n) mark bytes middle q parts is_mark e =
    elim (chosen (eqb n 4) _ _ (Ok q) e) [
      | inl h ↦ literal_told mark bytes middle q parts (subst (λ (m : ℕ). IsField 7 (pos m) mark) (eqb-true _ _ h.0) is_mark) h.1
      | inr h ↦ elim (chosen (eqb n 5) _ _ (Ok q) h.1) [
        | inl g ↦ typed_told mark bytes middle q parts (subst (λ (m : ℕ). IsField 7 (pos m) mark) (eqb-true _ _ g.0) is_mark) g.1
        | inr g ↦ let bad : Err unsupported_operand ≡ Ok q = g.1 in absurd cc
      ]
    ]
extended_told (negsuc n) mark bytes middle q parts is_mark e = absurd cc

integer_single : (first : ℕ) (bytes : List ℕ) (q : Compact × List ℕ) → first % 8 ≡ 1 → (compact_integer_at first bytes >>= λ z. Ok (Integer z.0, z.1)) ≡ Ok q → Stands (first ∷ bytes) q.1 (IsSingle q.0)
integer_single first bytes q under e =
    let b = bind_ok (compact_integer_at first bytes) (λ z. Ok (Integer z.0, z.1)) q e in
    elim (integer_told first bytes b.0 b.1) [
      | inl t ↦ subst (λ (p : Compact × List ℕ). Stands (first ∷ bytes) p.1 (IsSingle p.0)) (ok_is {F = OperandFault} (Integer b.0.0, b.0.1) q b.2)
          (record { text = first ∷ t.text; parts = ap (λ (bs : List ℕ). first ∷ bs) t.parts; is = t.is })
      | inr other ↦ absurd (other under)
    ]

single_of_told : (kind : CompactTag) (first : ℕ) (bytes : List ℕ) (q : Compact × List ℕ) → first % 8 ≡ tag_number kind → single_of_tag kind first bytes ≡ Ok q → Stands (first ∷ bytes) q.1 (IsSingle q.0)
unfolding single_of_tag register_of_tag
single_of_told tag.Number first bytes q under e = named Number first bytes q 0 under (λ n text h. h) e
single_of_told tag.Integer first bytes q under e = integer_single first bytes q under e
single_of_told tag.Atom first bytes q under e = named atom_or_nil first bytes q 2 under atom_is e
single_of_told tag.X first bytes q under e = named X first bytes q 3 under (λ n text h. inl h) e
single_of_told tag.Y first bytes q under e = named Y first bytes q 4 under (λ n text h. inl h) e
single_of_told tag.Label first bytes q under e = named Label first bytes q 5 under (λ n text h. h) e
single_of_told tag.Character first bytes q under e = absurd cc
single_of_told tag.Extended first bytes q under e =
    let b = bind_ok (value_at first bytes) (λ v. extended_of v.0 v.1) q e in
    let t = value_told first bytes b.0 b.1 in
    extended_told b.0.0 (first ∷ t.text) (first ∷ bytes) b.0.1 q (ap (λ (bs : List ℕ). first ∷ bs) t.parts) (under, t.is) b.2

single_told : (bytes : List ℕ) (q : Compact × List ℕ) → single_at bytes ≡ Ok q → Stands bytes q.1 (IsSingle q.0)
single_told [] q e = absurd cc
single_told (first ∷ bytes) q e = single_of_told (compact_tag first) first bytes q (tagged first (compact_tag first) refl) e

-- ---- lists

-- the bytes spell n members
abbrev Members : ℕ → List ℕ → List Compact × List ℕ → Type 0
Members n bytes q = (length q.0 ≡ n) × Stands bytes q.1 (AreMembers q.0)

members_told : (n : ℕ) (bytes : List ℕ) (q : List Compact × List ℕ) → members_at n bytes ≡ Ok q → Members n bytes q
unfolding members_at
members_told zero bytes q e =
    subst (Members zero bytes) (ok_is {F = OperandFault} ([], bytes) q e) (refl, record { text = []; parts = refl; is = refl })
members_told (suc n) bytes q e =
    let a = bind_ok (single_at bytes) (λ member. members_at n member.1 >>= λ others. Ok (member.0 ∷ others.0, others.1)) q e in
    let b = bind_ok (members_at n a.0.1) (λ others. Ok (a.0.0 ∷ others.0, others.1)) q a.2 in
    let s = single_told bytes a.0 a.1 in
    let m = members_told n a.0.1 b.0 b.1 in
    subst (Members (suc n) bytes) (ok_is {F = OperandFault} (a.0.0 ∷ b.0.0, b.0.1) q b.2) (
      ap suc m.0,
      record {
        text = s.text ++ m.1.text;
        parts = joined s.text bytes m.1.text a.0.1 b.0.1 s.parts m.1.parts;
        is = (s.text, m.1.text, refl, s.is, m.1.is);
      },
    )

list_told : (mark bytes middle : List ℕ) (q : CompactOperand × List ℕ) → bytes ≡ mark ++ middle → IsField 7 (pos 1) mark → compact_list_at middle ≡ Ok q → Stands bytes q.1 (IsSpelling q.0)
unfolding compact_list_at
list_told mark bytes middle q parts is_mark e =
    let a = bind_ok (number_at middle) (λ count. members_at count.0 count.1 >>= λ members. Ok (operand.List members.0, members.1)) q e in
    let b = bind_ok (members_at a.0.0 a.0.1) (λ members. Ok (operand.List members.0, members.1)) q a.2 in
    let c = number_told middle a.0 a.1 in
    let m = members_told a.0.0 a.0.1 b.0 b.1 in
    subst (λ (p : CompactOperand × List ℕ). Stands bytes p.1 (IsSpelling p.0)) (ok_is {F = OperandFault} (operand.List b.0.0, b.0.1) q b.2)
    (record {
      text = mark ++ (c.text ++ m.1.text);
      parts = joined mark bytes (c.text ++ m.1.text) middle b.0.1 parts (joined c.text middle m.1.text a.0.1 b.0.1 c.parts m.1.parts);
      is = record {
        mark = mark;
        count = c.text;
        members = m.1.text;
        parts = refl;
        is_mark = is_mark;
        is_count = subst (λ (n : ℕ). IsTaggedNumber 0 n c.text) (sym m.0) c.is;
        are_members = m.1.is;
      };
    })

-- ---- operands

one_told : (bytes : List ℕ) (r : Result (Compact × List ℕ) OperandFault) (q : CompactOperand × List ℕ) → ((p : Compact × List ℕ) → r ≡ Ok p → Stands bytes p.1 (IsSingle p.0))
    → as_operand r ≡ Ok q → Stands bytes q.1 (IsSpelling q.0)
one_told bytes (Ok p) q told e =
    let t = told p refl in
    subst (λ (o : CompactOperand × List ℕ). Stands bytes o.1 (IsSpelling o.0)) (ok_is {F = OperandFault} (operand.One p.0, p.1) q e)
    (record { text = t.text; parts = t.parts; is = t.is })
one_told bytes (Err f) q told e = absurd cc

one_is : (z : ℤ) → is_one z ≡ true → z ≡ pos 1
one_is (pos n) e = ap pos (eqb-true _ _ e)
one_is (negsuc n) e = absurd cc

operand_of_told : (kind : CompactTag) (first : ℕ) (bytes : List ℕ) (q : CompactOperand × List ℕ) → first % 8 ≡ tag_number kind → operand_of_tag kind first bytes ≡ Ok q → Stands (first ∷ bytes) q.1 (IsSpelling q.0)
unfolding operand_of_tag
operand_of_told tag.Number first bytes q under e = one_told (first ∷ bytes) (single_of_tag tag.Number first bytes) q (λ p. single_of_told tag.Number first bytes p under) e
operand_of_told tag.Integer first bytes q under e = one_told (first ∷ bytes) (single_of_tag tag.Integer first bytes) q (λ p. single_of_told tag.Integer first bytes p under) e
operand_of_told tag.Atom first bytes q under e = one_told (first ∷ bytes) (single_of_tag tag.Atom first bytes) q (λ p. single_of_told tag.Atom first bytes p under) e
operand_of_told tag.X first bytes q under e = one_told (first ∷ bytes) (single_of_tag tag.X first bytes) q (λ p. single_of_told tag.X first bytes p under) e
operand_of_told tag.Y first bytes q under e = one_told (first ∷ bytes) (single_of_tag tag.Y first bytes) q (λ p. single_of_told tag.Y first bytes p under) e
operand_of_told tag.Label first bytes q under e = one_told (first ∷ bytes) (single_of_tag tag.Label first bytes) q (λ p. single_of_told tag.Label first bytes p under) e
operand_of_told tag.Character first bytes q under e = one_told (first ∷ bytes) (single_of_tag tag.Character first bytes) q (λ p. single_of_told tag.Character first bytes p under) e
operand_of_told tag.Extended first bytes q under e =
    let b = bind_ok (value_at first bytes) (λ v. cond (is_one v.0) (compact_list_at v.1) (as_operand (extended_of v.0 v.1))) q e in
    let t = value_told first bytes b.0 b.1 in
    let parts : first ∷ bytes ≡ (first ∷ t.text) ++ b.0.1 = ap (λ (bs : List ℕ). first ∷ bs) t.parts in
    elim (chosen (is_one b.0.0) (compact_list_at b.0.1) (as_operand (extended_of b.0.0 b.0.1)) (Ok q) b.2) [
      | inl h ↦ list_told (first ∷ t.text) (first ∷ bytes) b.0.1 q parts (subst (λ (z : ℤ). IsField 7 z (first ∷ t.text)) (one_is b.0.0 h.0) (under, t.is)) h.1
      | inr h ↦ one_told (first ∷ bytes) (extended_of b.0.0 b.0.1) q (λ p. extended_told b.0.0 (first ∷ t.text) (first ∷ bytes) b.0.1 p parts (under, t.is)) h.1
    ]

pub operand_sound : (bytes : List ℕ) (q : CompactOperand × List ℕ) → operand_at bytes ≡ Ok q → Stands bytes q.1 (IsSpelling q.0)
operand_sound [] q e = absurd cc
operand_sound (first ∷ bytes) q e = operand_of_told (compact_tag first) first bytes q (tagged first (compact_tag first) refl) e
