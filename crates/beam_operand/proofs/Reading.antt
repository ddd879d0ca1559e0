-- Each reader of operands takes a front of the bytes.
use Rattle.std.proofs.Common.{◌≡◌, ℕ, zero, suc, ◌+◌, ◌*◌, ◌/◌, ◌%◌, ◌^◌, ◌≤◌, ℤ, pos, negsuc, Bool, true, false, cond, ltb, eqb, List, [], ◌∷◌, ◌++◌, length, take, drop, Ok, Err, refl, sym, ap, ◌∙◌, arith, ltb-false, le-ltb, take-append-drop, drop_at, length-append, length-take}
use Rattle.byteorder.specs.Endian.{big_number, twos_complement}
use Rattle.byteorder.specs.Numbers.{big_from-append, big_from-take}
use Rattle.beam_model.specs.declared.compact.CompactTag.{CompactTag}
use Rattle.beam_model.specs.declared.compact.Compact.{Compact}
use Rattle.beam_model.specs.declared.compact.Compact.TheVariants.{Number, Integer, X, Y, Label, Literal}
use Rattle.beam_model.specs.Prelude.{OperandFault, unsupported_operand, bad_sign, compact_tag, eleven_bits_at, wide_at, value_at, natural, is_small, natural_at, compact_integer_at, number_at, atom_or_nil, register_of_tag, register_at, extended_of, single_of_tag, single_at, members_at, compact_list_at, as_operand, is_one, operand_of_tag, operand_at}
use Rattle.beam_model.specs.declared.compact.CompactTag.TheVariants as tag
use Rattle.beam_model.specs.declared.compact.CompactOperand.TheVariants as operand
use Rattle.beam_model.specs.Compact.{truncated, integer_too_large, ◌>>=◌}
use Rattle.beam_operand.proofs.Prefix.{Reader, Took, IsPrefix, prefix_ok, prefix_err, prefix_if, prefix_bind, prefix_behind}

-- a test that did not fail
pub guard_ok : {A : Type 0} (b : Bool) (d : OperandFault) (x y : A) → cond b (Err d) (Ok x) ≡ Ok y → (b ≡ false) × (x ≡ y)
guard_ok true d x y e = absurd cc
guard_ok false d x y e = (refl, cc)

guard_err : {A : Type 0} (b : Bool) (d f : OperandFault) (x : A) → cond b (Err d) (Ok x) ≡ Err f → f ≡ d
guard_err true d f x e = cc
guard_err false d f x e = absurd cc

wide_took : (n : ℕ) (bytes : List ℕ) (z : ℤ) (rest : List ℕ) → wide_at n bytes ≡ Ok (z, rest) → Took (wide_at n) bytes z rest
wide_took n bytes z rest e =
    let g = guard_ok (ltb (length bytes) n) truncated (twos_complement n (big_number n bytes), drop n bytes) (z, rest) e in
    let long : n ≤ length bytes = ltb-false _ _ g.0 in
    let z-is : twos_complement n (big_number n bytes) ≡ z = ap (λ (p : ℤ × List ℕ). p.0) g.1 in
    let rest-is : drop n bytes ≡ rest = ap (λ (p : ℤ × List ℕ). p.1) g.1 in
    let len : length (take n bytes) ≡ n = omega (arith, length-take n bytes) in
    record {
      text = take n bytes;
      parts = rw (← rest-is) (sym (take-append-drop n bytes));
      again = λ more.
          let enough : ltb (length (take n bytes ++ more)) n ≡ false = le-ltb _ _ (omega (arith, length-append (take n bytes) more)) in
          let number : big_number n (take n bytes ++ more) ≡ big_number n bytes = big_from-append n (take n bytes) more (omega arith) ∙ big_from-take 0 n n bytes (omega arith) in
          rw (enough, number, drop_at (take n bytes) more n len, z-is) refl;
    }

prefix_wide : (n : ℕ) → IsPrefix (wide_at n)
prefix_wide n = record {
  took = wide_took n;
  stays = λ bytes f e ne more. absurd (ne (guard_err (ltb (length bytes) n) truncated f (twos_complement n (big_number n bytes), drop n bytes) e));
}

prefix_eleven : (first : ℕ) → IsPrefix (eleven_bits_at first)
prefix_eleven first = prefix_behind (λ second bytes. Ok (pos (first / 32 * 256 + second), bytes)) (λ second. prefix_ok (pos (first / 32 * 256 + second)))

pub prefix_value : (first : ℕ) → IsPrefix (value_at first)
unfolding value_at
prefix_value first =
    prefix_if (ltb (first % 16) 8) (λ bytes. Ok (pos (first / 16), bytes)) _ (prefix_ok (pos (first / 16)))
    (prefix_if (ltb (first % 32) 16) (eleven_bits_at first) _ (prefix_eleven first)
    (prefix_if (eqb (first / 32) 7) (λ bytes. Err integer_too_large) (wide_at (first / 32 + 2)) (prefix_err integer_too_large) (prefix_wide (first / 32 + 2))))

prefix_natural_of : (z : ℤ) → IsPrefix (natural z)
prefix_natural_of (pos n) = prefix_if (ltb n (2 ^ 32)) (λ bytes. Ok (n, bytes)) (λ bytes. Err integer_too_large) (prefix_ok n) (prefix_err integer_too_large)
prefix_natural_of (negsuc n) = prefix_err bad_sign

pub prefix_natural : (first : ℕ) → IsPrefix (natural_at first)
unfolding natural_at
prefix_natural first = prefix_bind (value_at first) natural (prefix_value first) prefix_natural_of

pub prefix_integer : (first : ℕ) → IsPrefix (compact_integer_at first)
unfolding compact_integer_at
prefix_integer first =
    prefix_bind (value_at first) (λ z bytes. cond (is_small z) (Ok (z, bytes)) (Err integer_too_large)) (prefix_value first)
    (λ z. prefix_if (is_small z) (λ bytes. Ok (z, bytes)) (λ bytes. Err integer_too_large) (prefix_ok z) (prefix_err integer_too_large))

pub prefix_number : IsPrefix number_at
unfolding number_at
prefix_number =
    prefix_behind (λ first bytes. cond (eqb (first % 8) 0) (natural_at first bytes) (Err unsupported_operand))
    (λ first. prefix_if (eqb (first % 8) 0) (natural_at first) (λ bytes. Err unsupported_operand) (prefix_natural first) (prefix_err unsupported_operand))

-- a number as an operand
prefix_as : {B : Type 0} (f : ℕ → B) (first : ℕ) → IsPrefix (λ bytes. natural_at first bytes >>= λ n. Ok (f n.0, n.1))
prefix_as f first = prefix_bind (natural_at first) (λ n bytes. Ok (f n, bytes)) (prefix_natural first) (λ n. prefix_ok (f n))

pub prefix_register_of : (kind : CompactTag) (first : ℕ) → IsPrefix (register_of_tag kind first)
unfolding register_of_tag
prefix_register_of tag.X first = prefix_as X first
prefix_register_of tag.Y first = prefix_as Y first
prefix_register_of tag.Number first = prefix_err unsupported_operand
prefix_register_of tag.Integer first = prefix_err unsupported_operand
prefix_register_of tag.Atom first = prefix_err unsupported_operand
prefix_register_of tag.Label first = prefix_err unsupported_operand
prefix_register_of tag.Character first = prefix_err unsupported_operand
prefix_register_of tag.Extended first = prefix_err unsupported_operand

pub prefix_register : IsPrefix register_at
prefix_register = prefix_behind (λ first. register_of_tag (compact_tag first) first) (λ first. prefix_register_of (compact_tag first) first)

pub prefix_extended : (z : ℤ) → IsPrefix (extended_of z)
unfolding extended_of
prefix_extended (pos n) =
    prefix_if (eqb n 4) (λ bytes. number_at bytes >>= λ index. Ok (Literal index.0, index.1)) _
    (prefix_bind number_at (λ index bytes. Ok (Literal index, bytes)) prefix_number (λ index. prefix_ok (Literal index)))
    (prefix_if (eqb n 5) (λ bytes. register_at bytes >>= λ register. number_at register.1 >>= λ type_index. Ok (register.0, type_index.1)) (λ bytes. Err unsupported_operand)
    (prefix_bind register_at (λ register bytes. number_at bytes >>= λ type_index. Ok (register, type_index.1)) prefix_register
    (λ register. prefix_bind number_at (λ type_index bytes. Ok (register, bytes)) prefix_number (λ type_index. prefix_ok register)))
    (prefix_err unsupported_operand))
prefix_extended (negsuc n) = prefix_err unsupported_operand

pub prefix_single_of : (kind : CompactTag) (first : ℕ) → IsPrefix (single_of_tag kind first)
unfolding single_of_tag
prefix_single_of tag.Number first = prefix_as Number first
prefix_single_of tag.Integer first = prefix_bind (compact_integer_at first) (λ z bytes. Ok (Integer z, bytes)) (prefix_integer first) (λ z. prefix_ok (Integer z))
prefix_single_of tag.Atom first = prefix_as atom_or_nil first
prefix_single_of tag.X first = prefix_register_of tag.X first
prefix_single_of tag.Y first = prefix_register_of tag.Y first
prefix_single_of tag.Label first = prefix_as Label first
prefix_single_of tag.Character first = prefix_err unsupported_operand
prefix_single_of tag.Extended first = prefix_bind (value_at first) extended_of (prefix_value first) prefix_extended

pub prefix_single : IsPrefix single_at
prefix_single = prefix_behind (λ first. single_of_tag (compact_tag first) first) (λ first. prefix_single_of (compact_tag first) first)

pub prefix_members : (n : ℕ) → IsPrefix (members_at n)
unfolding members_at
prefix_members zero = prefix_ok []
prefix_members (suc n) =
    prefix_bind single_at (λ member bytes. members_at n bytes >>= λ others. Ok (member ∷ others.0, others.1)) prefix_single
    (λ member. prefix_bind (members_at n) (λ others bytes. Ok (member ∷ others, bytes)) (prefix_members n) (λ others. prefix_ok (member ∷ others)))

pub prefix_list : IsPrefix compact_list_at
unfolding compact_list_at
prefix_list =
    prefix_bind number_at (λ count bytes. members_at count bytes >>= λ members. Ok (operand.List members.0, members.1)) prefix_number
    (λ count. prefix_bind (members_at count) (λ members bytes. Ok (operand.List members, bytes)) (prefix_members count) (λ members. prefix_ok (operand.List members)))

prefix_one : (r : Reader Compact) → IsPrefix r → IsPrefix (λ bytes. as_operand (r bytes))
prefix_one r h = prefix_bind r (λ x bytes. Ok (operand.One x, bytes)) h (λ x. prefix_ok (operand.One x))

pub prefix_operand_of : (kind : CompactTag) (first : ℕ) → IsPrefix (operand_of_tag kind first)
unfolding operand_of_tag
prefix_operand_of tag.Number first = prefix_one (single_of_tag tag.Number first) (prefix_single_of tag.Number first)
prefix_operand_of tag.Integer first = prefix_one (single_of_tag tag.Integer first) (prefix_single_of tag.Integer first)
prefix_operand_of tag.Atom first = prefix_one (single_of_tag tag.Atom first) (prefix_single_of tag.Atom first)
prefix_operand_of tag.X first = prefix_one (single_of_tag tag.X first) (prefix_single_of tag.X first)
prefix_operand_of tag.Y first = prefix_one (single_of_tag tag.Y first) (prefix_single_of tag.Y first)
prefix_operand_of tag.Label first = prefix_one (single_of_tag tag.Label first) (prefix_single_of tag.Label first)
prefix_operand_of tag.Character first = prefix_one (single_of_tag tag.Character first) (prefix_single_of tag.Character first)
prefix_operand_of tag.Extended first =
    prefix_bind (value_at first) (λ z bytes. cond (is_one z) (compact_list_at bytes) (as_operand (extended_of z bytes))) (prefix_value first)
    (λ z. prefix_if (is_one z) compact_list_at (λ bytes. as_operand (extended_of z bytes)) prefix_list (prefix_one (extended_of z) (prefix_extended z)))

pub prefix_operand : IsPrefix operand_at
prefix_operand = prefix_behind (λ first. operand_of_tag (compact_tag first) first) (λ first. prefix_operand_of (compact_tag first) first)
