-- An operand that was written is read again.
use Rattle.std.proofs.Common.{◌≡◌, ℕ, zero, suc, ◌%◌, ◌^◌, ◌<◌, ℤ, pos, negsuc, Bool, true, false, cond, ltb, eqb, List, [], ◌∷◌, ◌++◌, length, Result, Ok, Err, refl, sym, ap, subst, ◌∙◌, append_assoc, arith, ltb-true, lt-ltb, ne_eqb}
use Rattle.beam_lemmas.proofs.Steps.{bind_ok, guard_true}
use Rattle.beam_model.specs.declared.compact.CompactTag.{CompactTag}
use Rattle.beam_model.specs.declared.compact.Compact.{Compact}
use Rattle.beam_model.specs.declared.compact.Compact.TheVariants.{Number, Integer, Atom, X, Y, Label, Literal, Nil}
use Rattle.beam_model.specs.declared.compact.CompactOperand.{CompactOperand}
use Rattle.beam_model.specs.Prelude.{OperandFault, unsupported_operand, compact_tag, tag_number, value_at, is_small, natural_at, compact_integer_at, number_at, atom_or_nil, register_of_tag, extended_of, single_of_tag, single_at, members_at, compact_list_at, as_operand, is_one, operand_of_tag, operand_at, magnitude, field, single_spelling, members_spelling, spelling, HasNumbers, HaveNumbers, HasOperandNumbers}
use Rattle.beam_model.specs.declared.compact.CompactTag.TheVariants as tag
use Rattle.beam_model.specs.declared.compact.CompactOperand.TheVariants as operand
use Rattle.beam_model.specs.Compact.{integer_too_large, ◌>>=◌}
use Rattle.beam_operand.proofs.Prefix.{ok_is}
use Rattle.beam_operand.proofs.Fields.{field_is}
use Rattle.beam_operand.proofs.Reading.{guard_ok}

abbrev done : List ℕ → Result (List ℕ) OperandFault
done text = Ok text

-- a text that begins with a byte of this kind, after which an operand is read whatever follows
pub record IsSingle (text : List ℕ) (x : Compact) : Type 0 where
  pub first : ℕ
  pub bytes : List ℕ
  pub parts : text ≡ first ∷ bytes
  pub again : (more : List ℕ) → single_at (first ∷ (bytes ++ more)) ≡ Ok (x, more)

pub tag_is : (kind : CompactTag) (first : ℕ) → first % 8 ≡ tag_number kind → compact_tag first ≡ kind
tag_is tag.Number first e = rw e refl
tag_is tag.Integer first e = rw e refl
tag_is tag.Atom first e = rw e refl
tag_is tag.X first e = rw e refl
tag_is tag.Y first e = rw e refl
tag_is tag.Label first e = rw e refl
tag_is tag.Character first e = rw e refl
tag_is tag.Extended first e = rw e refl

pub natural_again : (first n : ℕ) (bytes more : List ℕ) → n < 2 ^ 32 → value_at first bytes ≡ Ok (pos n, more) → natural_at first bytes ≡ Ok (n, more)
unfolding natural_at
natural_again first n bytes more lt h = let small : ltb n (2 ^ 32) ≡ true = lt-ltb _ _ lt in rw (h, small) refl

pub number_again : (n : ℕ) (more : List ℕ) → n < 2 ^ 32 → number_at (field 0 (pos n) ++ more) ≡ Ok (n, more)
unfolding number_at
number_again n more lt =
    let f = field_is 0 (pos n) (omega arith) (omega arith) in
    let zero_tag : eqb (f.first % 8) 0 ≡ true = rw f.tagged refl in
    ap (λ (text : List ℕ). number_at (text ++ more)) f.parts ∙ rw zero_tag (natural_again f.first n (f.bytes ++ more) more lt (f.again more))

-- a field, whose value determines the operand
from_field : (kind : CompactTag) (z : ℤ) (x : Compact) → magnitude z < 2 ^ 63 → tag_number kind < 8
    → ((first : ℕ) (bytes more : List ℕ) → value_at first bytes ≡ Ok (z, more) → single_of_tag kind first bytes ≡ Ok (x, more))
    → IsSingle (field (tag_number kind) z) x
from_field kind z x small below read =
    let f = field_is (tag_number kind) z below small in
    record {
      first = f.first;
      bytes = f.bytes;
      parts = f.parts;
      again = λ more. ap (λ (t : CompactTag). single_of_tag t f.first (f.bytes ++ more)) (tag_is kind f.first f.tagged) ∙ read f.first (f.bytes ++ more) more (f.again more);
    }

pub number_read : (n : ℕ) → n < 2 ^ 32 → (first : ℕ) (bytes more : List ℕ) → value_at first bytes ≡ Ok (pos n, more) → single_of_tag tag.Number first bytes ≡ Ok (Number n, more)
unfolding single_of_tag
number_read n lt first bytes more h = rw (natural_again first n bytes more lt h) refl

pub label_read : (n : ℕ) → n < 2 ^ 32 → (first : ℕ) (bytes more : List ℕ) → value_at first bytes ≡ Ok (pos n, more) → single_of_tag tag.Label first bytes ≡ Ok (Label n, more)
unfolding single_of_tag
label_read n lt first bytes more h = rw (natural_again first n bytes more lt h) refl

pub atom_read : (n : ℕ) → n < 2 ^ 32 → (first : ℕ) (bytes more : List ℕ) → value_at first bytes ≡ Ok (pos n, more) → single_of_tag tag.Atom first bytes ≡ Ok (atom_or_nil n, more)
unfolding single_of_tag
atom_read n lt first bytes more h = rw (natural_again first n bytes more lt h) refl

pub x_read : (n : ℕ) → n < 2 ^ 32 → (first : ℕ) (bytes more : List ℕ) → value_at first bytes ≡ Ok (pos n, more) → single_of_tag tag.X first bytes ≡ Ok (X n, more)
unfolding single_of_tag register_of_tag
x_read n lt first bytes more h = rw (natural_again first n bytes more lt h) refl

pub y_read : (n : ℕ) → n < 2 ^ 32 → (first : ℕ) (bytes more : List ℕ) → value_at first bytes ≡ Ok (pos n, more) → single_of_tag tag.Y first bytes ≡ Ok (Y n, more)
unfolding single_of_tag register_of_tag
y_read n lt first bytes more h = rw (natural_again first n bytes more lt h) refl

pub integer_read : (z : ℤ) → is_small z ≡ true → (first : ℕ) (bytes more : List ℕ) → value_at first bytes ≡ Ok (z, more) → single_of_tag tag.Integer first bytes ≡ Ok (Integer z, more)
unfolding single_of_tag compact_integer_at
integer_read z small first bytes more h = rw (h, small) refl

small_fits : (z : ℤ) → is_small z ≡ true → magnitude z < 2 ^ 63
small_fits (pos n) e = omega (arith, ltb-true _ _ e)
small_fits (negsuc n) e = omega (arith, ltb-true _ _ e)

literal_is : (n : ℕ) → n < 2 ^ 32 → IsSingle (field 7 (pos 4) ++ field 0 (pos n)) (Literal n)
unfolding single_of_tag extended_of
literal_is n lt =
    let f = field_is 7 (pos 4) (omega arith) (omega arith) in
    record {
      first = f.first;
      bytes = f.bytes ++ field 0 (pos n);
      parts = ap (λ (t : List ℕ). t ++ field 0 (pos n)) f.parts;
      again = λ more.
          ap (λ (t : CompactTag). single_of_tag t f.first ((f.bytes ++ field 0 (pos n)) ++ more)) (tag_is tag.Extended f.first f.tagged)
          ∙ ap (single_of_tag tag.Extended f.first) (append_assoc f.bytes (field 0 (pos n)) more)
          ∙ ap (λ (r : Result (ℤ × List ℕ) OperandFault). r >>= λ v. extended_of v.0 v.1) (f.again (field 0 (pos n) ++ more))
          ∙ ap (λ (r : Result (ℕ × List ℕ) OperandFault). r >>= λ index. Ok (Literal index.0, index.1)) (number_again n more lt);
    }

guarded : {A : Type 0} (b : Bool) (f : OperandFault) (x y : A) → cond b (Ok x) (Err f) ≡ Ok y → (b ≡ true) × (x ≡ y)
guarded true f x y e = (refl, cc)
guarded false f x y e = absurd cc

as_text : (t text : List ℕ) (x : Compact) → done t ≡ Ok text → IsSingle t x → IsSingle text x
as_text t text x e h = subst (λ (s : List ℕ). IsSingle s x) (ok_is {F = OperandFault} t text e) h

pub atom_not_nil : (n : ℕ) → eqb n 0 ≡ false → atom_or_nil n ≡ Atom n
atom_not_nil zero e = absurd cc
atom_not_nil (suc n) e = refl

pub single_again : (x : Compact) (text : List ℕ) → HasNumbers x → single_spelling x ≡ Ok text → IsSingle text x
unfolding single_spelling
single_again (Number n) text h e = as_text _ text (Number n) e (from_field tag.Number (pos n) (Number n) (omega arith) (omega arith) (number_read n h))
single_again (Integer z) text h e =
    let g = guarded (is_small z) integer_too_large (field 1 z) text e in
    subst (λ (s : List ℕ). IsSingle s (Integer z)) g.1 (from_field tag.Integer z (Integer z) (small_fits z g.0) (omega arith) (integer_read z g.0))
single_again Nil text h e = as_text _ text Nil e (from_field tag.Atom (pos 0) Nil (omega arith) (omega arith) (atom_read 0 (omega arith)))
single_again (Atom n) text h e =
    let g = guard_ok (eqb n 0) unsupported_operand (field 2 (pos n)) text e in
    subst (λ (s : List ℕ). IsSingle s (Atom n)) g.1 (from_field tag.Atom (pos n) (Atom n) (omega arith) (omega arith)
    (λ first bytes more v. atom_read n h first bytes more v ∙ ap (λ (x : Compact). Ok (x, more)) (atom_not_nil n g.0)))
single_again (X n) text h e = as_text _ text (X n) e (from_field tag.X (pos n) (X n) (omega arith) (omega arith) (x_read n h))
single_again (Y n) text h e = as_text _ text (Y n) e (from_field tag.Y (pos n) (Y n) (omega arith) (omega arith) (y_read n h))
single_again (Label n) text h e = as_text _ text (Label n) e (from_field tag.Label (pos n) (Label n) (omega arith) (omega arith) (label_read n h))
single_again (Literal n) text h e = as_text _ text (Literal n) e (literal_is n h)

pub members_again : (xs : List Compact) (text more : List ℕ) → HaveNumbers xs → members_spelling xs ≡ Ok text → members_at (length xs) (text ++ more) ≡ Ok (xs, more)
unfolding members_spelling members_at
members_again [] text more h e = ap (λ (t : List ℕ). Ok ([], t ++ more)) (sym (ok_is {F = OperandFault} [] text e))
members_again (x ∷ xs) text more h e =
    let a = bind_ok (single_spelling x) (λ first. members_spelling xs >>= λ others. Ok (first ++ others)) text e in
    let b = bind_ok (members_spelling xs) (λ others. Ok (a.0 ++ others)) text a.2 in
    let s = single_again x a.0 h.0 a.1 in
    let parts : text ++ more ≡ s.first ∷ (s.bytes ++ (b.0 ++ more)) =
    ap (λ (t : List ℕ). t ++ more) (sym (ok_is {F = OperandFault} (a.0 ++ b.0) text b.2))
    ∙ append_assoc a.0 b.0 more ∙ ap (λ (t : List ℕ). t ++ (b.0 ++ more)) s.parts in
    ap (members_at (suc (length xs))) parts
    ∙ ap (λ (r : Result (Compact × List ℕ) OperandFault). r >>= λ member. members_at (length xs) member.1 >>= λ others. Ok (member.0 ∷ others.0, others.1)) (s.again (b.0 ++ more))
    ∙ ap (λ (r : Result (List Compact × List ℕ) OperandFault). r >>= λ others. Ok (x ∷ others.0, others.1)) (members_again xs b.0 more h.1 b.1)

-- what is no list is read as one operand
not_one : (z : ℤ) (bytes : List ℕ) (x : Compact × List ℕ) → extended_of z bytes ≡ Ok x → is_one z ≡ false
unfolding extended_of
not_one (pos n) bytes x e = ne_eqb n 1 (λ as_operand. let none : extended_of (pos n) bytes ≡ Err unsupported_operand = rw as_operand refl in let both : Err unsupported_operand ≡ Ok x = sym none ∙ e in absurd cc)
not_one (negsuc n) bytes x e = refl

extended_single : (first : ℕ) (bytes : List ℕ) (x : Compact) (rest : List ℕ) → single_of_tag tag.Extended first bytes ≡ Ok (x, rest) → operand_of_tag tag.Extended first bytes ≡ Ok (operand.One x, rest)
unfolding operand_of_tag single_of_tag
extended_single first bytes x rest e =
    let b = bind_ok (value_at first bytes) (λ v. extended_of v.0 v.1) (x, rest) e in
    ap (λ (r : Result (ℤ × List ℕ) OperandFault). r >>= λ v. cond (is_one v.0) (compact_list_at v.1) (as_operand (extended_of v.0 v.1))) b.1
    ∙ ap (λ (t : Bool). cond t (compact_list_at b.0.1) (as_operand (extended_of b.0.0 b.0.1))) (not_one b.0.0 b.0.1 (x, rest) b.2)
    ∙ ap as_operand b.2

pub from_single : (kind : CompactTag) (first : ℕ) (bytes : List ℕ) (x : Compact) (rest : List ℕ) → single_of_tag kind first bytes ≡ Ok (x, rest) → operand_of_tag kind first bytes ≡ Ok (operand.One x, rest)
unfolding operand_of_tag
from_single tag.Number first bytes x rest e = rw e refl
from_single tag.Integer first bytes x rest e = rw e refl
from_single tag.Atom first bytes x rest e = rw e refl
from_single tag.X first bytes x rest e = rw e refl
from_single tag.Y first bytes x rest e = rw e refl
from_single tag.Label first bytes x rest e = rw e refl
from_single tag.Character first bytes x rest e = rw e refl
from_single tag.Extended first bytes x rest e = extended_single first bytes x rest e

-- the parts of a list's spelling
record ListParts (xs : List Compact) (text : List ℕ) : Type 0 where
  short : length xs < 2 ^ 32
  members : List ℕ
  spelled : members_spelling xs ≡ Ok members
  parts : text ≡ (field 7 (pos 1) ++ field 0 (pos (length xs))) ++ members

list_parts : (xs : List Compact) (text : List ℕ) → spelling (operand.List xs) ≡ Ok text → ListParts xs text
unfolding spelling
list_parts xs text e =
    let g = guard_true (ltb (length xs) (2 ^ 32)) integer_too_large (members_spelling xs >>= λ members. Ok ((field 7 (pos 1) ++ field 0 (pos (length xs))) ++ members)) text e in
    let b = bind_ok (members_spelling xs) (λ members. Ok ((field 7 (pos 1) ++ field 0 (pos (length xs))) ++ members)) text g.1 in
    record {
      short = ltb-true _ _ g.0;
      members = b.0;
      spelled = b.1;
      parts = sym (ok_is {F = OperandFault} ((field 7 (pos 1) ++ field 0 (pos (length xs))) ++ b.0) text b.2);
    }

pub operand_again : (v : CompactOperand) (text more : List ℕ) → HasOperandNumbers v → spelling v ≡ Ok text → operand_at (text ++ more) ≡ Ok (v, more)
unfolding spelling operand_of_tag compact_list_at
operand_again (operand.One x) text more h e =
    let s = single_again x text h e in
    ap (λ (t : List ℕ). operand_at (t ++ more)) s.parts ∙ from_single (compact_tag s.first) s.first (s.bytes ++ more) x more (s.again more)
operand_again (operand.List xs) text more h e =
    let g = list_parts xs text e in
    let f = field_is 7 (pos 1) (omega arith) (omega arith) in
    let count = field 0 (pos (length xs)) in
    let rest : List ℕ = count ++ (g.members ++ more) in
    let parts : text ++ more ≡ f.first ∷ (f.bytes ++ (count ++ (g.members ++ more))) =
    ap (λ (t : List ℕ). t ++ more) g.parts ∙ append_assoc (field 7 (pos 1) ++ count) g.members more
    ∙ append_assoc (field 7 (pos 1)) count (g.members ++ more) ∙ ap (λ (t : List ℕ). t ++ (count ++ (g.members ++ more))) f.parts in
    ap operand_at parts
    ∙ ap (λ (t : CompactTag). operand_of_tag t f.first (f.bytes ++ (count ++ (g.members ++ more)))) (tag_is tag.Extended f.first f.tagged)
    ∙ ap (λ (r : Result (ℤ × List ℕ) OperandFault). r >>= λ v. cond (is_one v.0) (compact_list_at v.1) (as_operand (extended_of v.0 v.1))) (f.again (count ++ (g.members ++ more)))
    ∙ ap (λ (r : Result (ℕ × List ℕ) OperandFault). r >>= λ n. members_at n.0 n.1 >>= λ members. Ok (operand.List members.0, members.1)) (number_again (length xs) (g.members ++ more) g.short)
    ∙ ap (λ (r : Result (List Compact × List ℕ) OperandFault). r >>= λ members. Ok (operand.List members.0, members.1)) (members_again xs g.members more h g.spelled)
